-- No pulse on the first rows, and none at a row whose mean is a NaN, for every list of rows from a fresh start, refused ones included. Assumes nothing.
use Rattle.std.specs.Prelude.{Ok, Err}
use Prim.Native.Nat.{◌≤◌}
use native.Mathlib.Omega.{arith}
use mathlib.Core.Path.{◌≡◌, refl, ◌∙◌}
use mathlib.Core.Bool.{Bool, true, false, ◌&&◌, ◌||◌}
use mathlib.Core.List.{List, [], ◌∷◌}
use lib.Dec.{T}
use lib.ListN.{length}
use lib.Ieee.{nan, binary64, add, sub, div, lt, of_bits}
use lib.Ieee.Scale.{finite}
use lib.Ieee.Fits.{and_i, and_l, and_r}
use Rattle.reals.specs.Constants.{plus_zero, one}
use Rattle.reals.specs.Limits.{limit}
use Rattle.reals.specs.Switch.{switch}
use Rattle.reals.proofs.FloatOrder.{lt_nan}
use Rattle.reals.proofs.Between.{limit_of_nan}
use Rattle.reals.proofs.Truth.{is_true, is_false, table1}
use Rattle.refusals.specs.declared.Refusal.TheVariants.{NotFinite}
use Rattle.refusals.specs.Refusals.{Verdict}
use Rattle.refusals.specs.Refusals.{judge}
use Rattle.refusals.proofs.Accepting.{refused_is_not_accepted}
use Rattle.past.specs.Acceptance.{verdict_after, last_time}
use Rattle.past.specs.Turns.{values, pulse}
use Rattle.past.specs.Stepped.{in_order}
use Rattle.past.specs.Whole.{accepted, next_by}
use Rattle.past.proofs.Laws.{since_step, since_none}
use Rattle.past.proofs.Stepped.{finite_here}
use Rattle.moving_average.specs.Past.{moving_average_of}
use Rattle.moving_average.proofs.FirstRows.{first_mean}
use Rattle.relief_fan_group.specs.declared.types.ReliefRow.{ReliefRow}
use Rattle.relief_fan_group.specs.Constants.{min_speed, stage_up_level, hys}
use Rattle.relief_fan_group.specs.Verdict.{numbers_finite}
use Rattle.relief_fan_group.specs.Signals.{pressure_loop}
use Rattle.relief_fan_group.specs.Reading.{Past, time_of_row, mean, loop_of, up_request, down_request, up_pulse, down_pulse, verdict_of}
use Rattle.relief_fan_group.proofs.Pulses.{Way, request, request_here, request_before, none_on_row_0}
use Rattle.relief_fan_group.proofs.Blocks.{up_way, down_way}
use Rattle.relief_fan_group.proofs.Demand3.{accepted_judged}
use Rattle.relief_answers.specs.Latches.{taken}
use Rattle.relief_answers.proofs.Flags.{no}
use Rattle.relief_answers.proofs.Latches.{taken_in_order}

-- ---- the numbers of accepted rows are finite
abbrev all_finite : Past → Bool
all_finite [] = true
all_finite (x ∷ h) = numbers_finite x && all_finite h

accepted_finite : (x : ReliefRow) (h : Past) → verdict_of h x ≡ Ok tt → T (numbers_finite x)
unfolding verdict_after
accepted_finite x h e = go (numbers_finite x) (accepted_judged x h e)
  where
    go : (b : Bool) → judge b x.time (last_time time_of_row h) ≡ Ok tt → T b
    go true e = tt
    go false e = unfold judge in absurd (refused_is_not_accepted NotFinite e)

taken_finite : (l : List ReliefRow) → T (all_finite (taken l))
unfolding accepted
taken_finite [] = tt
taken_finite (x ∷ l) = go (verdict_of (taken l) x) (accepted_finite x (taken l)) (taken_finite l)
  where
    go : (v : Verdict) → (v ≡ Ok tt → T (numbers_finite x)) → T (all_finite (taken l))
        → T (all_finite (next_by v (x ∷ taken l) (taken l)))
    go (Ok tt) f g = and_i (numbers_finite x) (all_finite (taken l)) (f refl) g
    go (Err r) f g = g

-- ---- row 0 has the mean 0, so it makes no request up
first_loop : (x : ReliefRow) → T (numbers_finite x) → lt stage_up_level (loop_of (x ∷ [])) ≡ false
unfolding mean moving_average_of pressure_loop numbers_finite
first_loop x f =
    rw (first_mean x.time x.pressure (and_l (finite x.time) (finite x.pressure) f) (and_r (finite x.time) (finite x.pressure) f))
    (unfold limit switch lt sub div add of_bits in refl)

first_request : (x : ReliefRow) → T (numbers_finite x) → up_request (x ∷ []) ≡ false
first_request x f =
    since_step (λ s. lt (sub binary64 stage_up_level hys) (loop_of s)) (λ s. lt stage_up_level (loop_of s)) x []
    ∙ rw (since_none {A = ReliefRow} (λ s. lt (sub binary64 stage_up_level hys) (loop_of s)) (λ s. lt stage_up_level (loop_of s)), first_loop x f)
    (table1 (λ c. false || c && false) (λ c. false) tt (lt (sub binary64 stage_up_level hys) (loop_of (x ∷ []))))

-- no list of fewer than three accepted rows has an up pulse
pub no_up_pulse_on_row_0_or_1 : (l : List ReliefRow) → length (taken l) ≤ 2 → up_pulse (taken l) ≡ false
no_up_pulse_on_row_0_or_1 l n = go (taken l) n (taken_in_order l) (taken_finite l)
  where
    go : (h : Past) → length h ≤ 2 → T (in_order time_of_row h) → T (all_finite h) → up_pulse h ≡ false
    go [] n o f = unfold pulse values in refl
    go (x ∷ []) n o f = none_on_row_0 time_of_row loop_of up_way x (finite_here time_of_row x [] o)
    go (x ∷ (y ∷ [])) n o f =
        is_false (up_pulse (x ∷ (y ∷ []))) (λ t. no (request_before time_of_row loop_of up_way x (y ∷ []) (finite_here time_of_row x (y ∷ []) o) (is_true (up_pulse (x ∷ (y ∷ []))) t))
        (first_request y (and_l (numbers_finite y) true (and_r (numbers_finite x) (numbers_finite y && true) f))))
    go (x ∷ (y ∷ (z ∷ h))) n o f = absurd (omega arith)

-- and none of one accepted row has a down pulse
pub no_down_pulse_on_row_0 : (l : List ReliefRow) → length (taken l) ≤ 1 → down_pulse (taken l) ≡ false
no_down_pulse_on_row_0 l n = go (taken l) n (taken_in_order l)
  where
    go : (h : Past) → length h ≤ 1 → T (in_order time_of_row h) → down_pulse h ≡ false
    go [] n o = unfold pulse values in refl
    go (x ∷ []) n o = none_on_row_0 time_of_row loop_of down_way x (finite_here time_of_row x [] o)
    go (x ∷ (y ∷ h)) n o = absurd (omega arith)

-- ---- a mean that is a NaN makes no request, and so there is no pulse
loop_of_nan : pressure_loop nan ≡ nan
unfolding pressure_loop div sub of_bits
loop_of_nan = limit_of_nan plus_zero one

nan_makes_no_request : (x : ReliefRow) (h : Past) → mean (x ∷ h) ≡ nan → (up_request (x ∷ h) ≡ false)
    × (down_request (x ∷ h) ≡ false)
nan_makes_no_request x h e = (
  rw (since_step (λ s. lt (sub binary64 stage_up_level hys) (loop_of s)) (λ s. lt stage_up_level (loop_of s)) x h, e, loop_of_nan, (lt_nan stage_up_level).1, (lt_nan (sub binary64 stage_up_level hys)).1) refl,
  rw (since_step (λ s. lt (loop_of s) (add binary64 min_speed hys)) (λ s. lt (loop_of s) min_speed) x h, e, loop_of_nan, (lt_nan min_speed).0, (lt_nan (add binary64 min_speed hys)).0) refl,
)

-- a pulse has its request on its own row
no_request_no_pulse : (w : Way) (x : ReliefRow) (h : Past) → T (in_order time_of_row (x ∷ h))
    → request time_of_row loop_of w (x ∷ h) ≡ false
    → pulse time_of_row w.seconds (request time_of_row loop_of w) (x ∷ h) ≡ false
no_request_no_pulse w x h o e = is_false _ (λ t. no (request_here time_of_row loop_of w x h (finite_here time_of_row x h o) (is_true _ t)) e)

pub nan_makes_no_pulse : (x : ReliefRow) (h : Past) → T (in_order time_of_row (x ∷ h)) → mean (x ∷ h) ≡ nan
    → (up_pulse (x ∷ h) ≡ false) × (down_pulse (x ∷ h) ≡ false)
nan_makes_no_pulse x h o e = let none = nan_makes_no_request x h e in (no_request_no_pulse up_way x h o none.0, no_request_no_pulse down_way x h o none.1)

-- over all lists
pub no_pulse_at_nan : (l : List ReliefRow) → mean (taken l) ≡ nan → (up_pulse (taken l) ≡ false)
    × (down_pulse (taken l) ≡ false)
no_pulse_at_nan l = go (taken l) (taken_in_order l)
  where
    go : (h : Past) → T (in_order time_of_row h) → mean h ≡ nan → (up_pulse h ≡ false) × (down_pulse h ≡ false)
    go [] o e = unfold pulse values in (refl, refl)
    go (x ∷ h) o e = nan_makes_no_pulse x h o e
