-- An infinite mean alone may return: computed for one list. Assumes nothing.
use mathlib.Core.Path.{◌≡◌, refl}
use mathlib.Core.Bool.{false}
use mathlib.Core.List.{zip_with}
use lib.Dec.{T}
use lib.ListN.{drop}
use lib.Ieee.{inf, add, sub, mul, div, neg, le, lt, eq, is_nan, round, of_bits}
use lib.Ieee.Scale.{finite}
use Rattle.reals.specs.Constants.{plus_zero}
use Rattle.reals.specs.Order.{greater}
use Rattle.reals.specs.Seen.{seen_elapsed, seen_above}
use Rattle.reals.specs.Sign.{is_sign_negative}
use Rattle.reals.specs.Switch.{switch}
use Rattle.refusals.specs.Refusals.{verdict_or_refused, judge}
use Rattle.past.specs.Acceptance.{verdict_after}
use Rattle.past.specs.Whole.{accepted}
use Rattle.moving_average.specs.Window.{same_time, drop_old, ends_at, store}
use Rattle.moving_average.specs.Integral.{on_line, integral_after, integral_at}
use Rattle.moving_average.specs.State.{held, written, start_time, mu_now, averaged_time, moving_average_new, moving_average_output, moving_average_is_full, moving_average_stored, moving_average_update}
use Rattle.moving_average.specs.Past.{from, different_before, different, window_is_full, moving_average_of}
use Rattle.relief_fans.specs.Alarms.{fits_byte, alarms_fit}
use Rattle.relief_fans.specs.Flags.{all_of}
use Rattle.relief_fan_group.specs.Verdict.{numbers_finite, after_judged}
use Rattle.relief_fan_group.specs.Reading.{mean, verdict_of}
use Rattle.relief_answers.specs.Latches.{taken}
use Rattle.relief_answers.specs.Sum.{pressure_sum}
use Rattle.relief_answers.specs.Returning.{returning}

-- its five rows are accepted
returning_taken : taken returning ≡ returning
unfolding accepted verdict_of verdict_after after_judged verdict_or_refused fits_byte alarms_fit all_of judge numbers_finite seen_above is_sign_negative window_is_full from different_before different lt le eq sub round of_bits
returning_taken = refl

finite_sum : T (finite (pressure_sum returning))
unfolding pressure_sum add sub mul neg round of_bits
finite_sum = tt

means : (mean (drop 1 returning) ≡ inf false) × (mean returning ≡ plus_zero)
unfolding mean moving_average_of moving_average_output moving_average_update moving_average_is_full moving_average_stored moving_average_new held written start_time mu_now averaged_time seen_elapsed drop_old ends_at store same_time on_line integral_after integral_at greater switch is_sign_negative is_nan zip_with add sub mul div neg le lt eq round of_bits
means = (refl, refl)

-- at its fourth row the mean is infinite, at its fifth it is 0, and the sum is finite
pub infinite_mean_returns : (mean (drop 1 (taken returning)) ≡ inf false) × (mean (taken returning) ≡ plus_zero)
    × T (finite (pressure_sum (taken returning)))
infinite_mean_returns = rw returning_taken (means.0, means.1, finite_sum)
