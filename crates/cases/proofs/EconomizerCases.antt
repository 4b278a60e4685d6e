-- Cases E1 and E2: what the outdoor air condition and the delays do at a row, from that row's and the row before's. Assumes nothing.
use Rattle.std.specs.Prelude.{Ok}
use mathlib.Core.Path.{◌≡◌, refl}
use mathlib.Core.Bool.{Bool, true, false, not, ◌&&◌, ◌||◌, cond}
use lib.Ieee.{Float, lt, le, sub, is_nan, round, of_bits}
use Rattle.reals.specs.Constants.{plus_zero, minus_one}
use Rattle.reals.specs.declared.hysteresis.HysteresisState.{HysteresisState}
use Rattle.reals.specs.Order.{greater}
use Rattle.reals.specs.Seen.{seen_above, seen_gap}
use Rattle.reals.specs.Sign.{is_sign_negative}
use Rattle.reals.specs.Switch.{switch}
use Rattle.reals.specs.Hysteresis.{hysteresis_new, hysteresis_output, hysteresis_update}
use Rattle.logical.specs.declared.true_delay.TrueDelayState.{TrueDelayState}
use Rattle.logical.proofs.Differ.{delays_differ_on_row_0}
use Rattle.logical.specs.TrueDelay.{true_delay_new, true_delay_next_timer, true_delay_output, true_delay_update}
use Rattle.logical.specs.TrueFalseHold.{true_false_hold_new, true_false_hold_output_and_timer, true_false_hold_output, true_false_hold_update}
use Rattle.logical.specs.Run.{run}
use Rattle.refusals.specs.Refusals.{judge}
use Rattle.economizer_controller.specs.declared.types.EconomizerRow.{EconomizerRow}
use Rattle.economizer_controller.specs.declared.types.EconomizerState.{EconomizerState}
use Rattle.economizer_controller.specs.Integers.{integers_equal}
use Rattle.economizer_controller.specs.Verdict.{numbers_finite, economizer_verdict}
use Rattle.economizer_controller.specs.Enable.{enable_new, enable_output, enable_update}
use Rattle.economizer_controller.specs.Step.{economizer_fresh, economizer_signals, economizer_next, step_by, economizer_row}
use Rattle.economizer_controller.specs.Told.{economizer_worked, economizer_returned}
use Rattle.economizer_controller.proofs.Demand3.{economizer_returned_lem}
use Rattle.cases.specs.Economizer.{enable_at, difference, RisesAndStays, Delays, StartsAndWaits, enables}

-- the hysteresis, by its value on the row before
by_before : (s : HysteresisState) (u : Float) → hysteresis_output s u ≡ cond s.previous (le minus_one u) (lt plus_zero u)
unfolding hysteresis_output
by_before s u = go s.previous (lt plus_zero u) (le minus_one u)
  where
    go : (b rises stays : Bool) → ((not b && rises) || (b && stays)) ≡ cond b stays rises
    go true rises stays = refl
    go false true stays = refl
    go false false stays = refl

pub rises_and_stays : RisesAndStays
unfolding economizer_fresh economizer_signals economizer_next enable_new enable_output enable_update hysteresis_new hysteresis_update round of_bits
rises_and_stays = record {
  first = λ row. by_before hysteresis_new (difference row);
  later = λ state row next e. rw (economizer_returned_lem state row, e) (by_before (economizer_next state row (economizer_signals state row)).enable.hysteresis (difference next));
}

-- a delay is its input on row 0, and false where its input was false on the row before
on_row_0 : (t delay : Float) (u : Bool) → true_delay_output true_delay_new t u delay ≡ u
on_row_0 t delay true = (delays_differ_on_row_0 t delay).0
on_row_0 t delay false = unfold true_delay_output in refl

starts_false : (s : TrueDelayState) (t next delay : Float) (u : Bool) → le delay plus_zero ≡ false → true_delay_output (true_delay_update s t false delay) next u delay ≡ false
unfolding true_delay_output true_delay_update true_delay_next_timer switch
starts_false s t next delay true e = e
starts_false s t next delay false e = refl

delays_first : (row : EconomizerRow) → Delays (enable_at economizer_fresh row) (not (enable_at economizer_fresh row).enabled)
unfolding economizer_fresh economizer_signals enable_new enable_output
delays_first row = record { outdoor = on_row_0 _ _ _; return = on_row_0 _ _ _ }

delays_later : (state : EconomizerState) (row next : EconomizerRow) → economizer_verdict state row ≡ Ok tt → (enable_at state row).enabled ≡ true → Delays (enable_at (economizer_returned state row) next) false
unfolding economizer_signals economizer_next enable_output enable_update
delays_later state row next e on = rw (economizer_returned_lem state row, e, on) (record { outdoor = starts_false _ _ _ _ _ (unfold le of_bits in refl); return = starts_false _ _ _ _ _ (unfold le of_bits in refl) })

pub starts_and_waits : StartsAndWaits
unfolding enables run economizer_row step_by economizer_worked economizer_verdict judge numbers_finite is_sign_negative seen_above economizer_fresh economizer_signals economizer_next enable_new enable_output enable_update hysteresis_new hysteresis_output hysteresis_update true_false_hold_new true_false_hold_output_and_timer true_false_hold_output true_false_hold_update true_delay_next_timer true_delay_output true_delay_update integers_equal switch seen_gap greater is_nan le sub of_bits
starts_and_waits = record { first = delays_first; later = delays_later; waits = λ o. refl }
