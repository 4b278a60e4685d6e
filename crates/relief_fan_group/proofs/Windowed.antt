-- A sequence that has the relief window: what holds of its accepted rows, and that its verdict on the state of a past is that of the list. For any rows that have a
-- time, a value that is averaged and four alarms. Assumes nothing.
use Rattle.std.specs.Prelude.{Ok, Err, Option}
use mathlib.Core.Path.{◌≡◌, refl}
use mathlib.Core.Bool.{Bool, true, false, not, ◌&&◌, true≢false}
use mathlib.Core.List.{List, [], ◌∷◌, map}
use lib.Dec.{T}
use lib.IntN.{ℤ}
use lib.Ieee.{Float}
use lib.Ieee.Fits.{and_i, and_l, and_r}
use lib.Ieee.Scale.{finite}
use Rattle.reals.specs.Sign.{is_time}
use Rattle.reals.proofs.FloatOrder.{le→not-lt}
use Rattle.refusals.specs.declared.Refusal.TheVariants.{AlarmOutOfRange, WindowFull}
use Rattle.refusals.specs.Refusals.{Verdict, verdict_or_refused, judge}
use Rattle.refusals.proofs.Accepting.{neither_fits}
use Rattle.past.specs.Stepped.{not_before, in_order}
use Rattle.past.specs.Acceptance.{last_time, verdict_after}
use Rattle.past.specs.Whole as whole
use Rattle.past.proofs.Stepped.{order_here, time_here}
use Rattle.past.proofs.Whole.{good_accepted}
use Rattle.past.proofs.Sequence.{in_order_lem}
use Rattle.moving_average.specs.Past.{below_last, time_accepted, accepted, window_is_full, moving_average_of}
use Rattle.moving_average.specs.State.{moving_average_is_full}
use Rattle.moving_average.proofs.Accepted.{accepted_cons}
use Rattle.moving_average.proofs.Reading.{is_full_reads}
use Rattle.relief_fans.specs.Alarms.{alarms_fit}
use Rattle.relief_fan_group.specs.Verdict.{after_judged}
use Rattle.relief_fan_group.specs.Reading.{verdict_windowed}

-- what a row of such a sequence has: its time, the value that is averaged, its alarms, and whether its numbers are finite, the time among them
pub record WindowedRow (R : Type 0) : Type 0 where
  pub time : R → Float
  pub value : R → Float
  pub alarm : R → List ℤ
  pub all_finite : R → Bool
  pub time_finite : (x : R) → T (all_finite x) → T (finite (time x))

module _ {R : Type 0} (r : WindowedRow R) where
  abbrev verdict : List R → R → Verdict
  verdict = verdict_windowed r.time r.alarm r.all_finite

  -- ---- what holds of the accepted rows: their times are in order, and the window had room for each
  abbrev pub good : List R → Bool
  good h = in_order r.time h && accepted (map r.time h)

  pub good_order : (h : List R) → T (good h) → T (in_order r.time h)
  good_order h g = and_l (in_order r.time h) (accepted (map r.time h)) g

  pub good_window : (h : List R) → T (good h) → T (accepted (map r.time h))
  good_window h g = and_r (in_order r.time h) (accepted (map r.time h)) g

  -- refusals 1 to 3 do not fit: the times stay in order
  judged_order : (x : R) (h : List R) → T (in_order r.time h) → verdict_after r.time r.all_finite h x ≡ Ok tt → T (in_order r.time (x ∷ h))
  judged_order = in_order_lem r.time r.all_finite r.time_finite

  -- and that is all that the window asks of the time
  in_time : (x : R) (h : List R) → T (in_order r.time (x ∷ h)) → T (time_accepted (map r.time h) (r.time x))
  in_time x h o =
      and_i (is_time (r.time x)) (not (below_last (map r.time h) (r.time x))) (time_here r.time x h o)
      (rw (above h (order_here r.time x h o)) tt)
    where
      above : (h : List R) → T (not_before r.time (r.time x) h) → below_last (map r.time h) (r.time x) ≡ false
      above [] l = refl
      above (y ∷ h) l = le→not-lt (r.time x) (r.time y) l

  -- ---- the verdict from a state's last accepted time and its window is that of the list
  pub verdict_is : (x : R) (h : List R) → T (good h) → (last : Option Float) → last ≡ last_time r.time h
      → after_judged (judge (r.all_finite x) (r.time x) last) (r.alarm x) (moving_average_is_full (moving_average_of r.time r.value h) (r.time x)) ≡ verdict h x
  unfolding verdict_after
  verdict_is x h g last l =
      rw l (go (verdict_after r.time r.all_finite h x) (λ e. is_full_reads r.time r.value h (good_window h g) (r.time x) (in_time x h (judged_order x h (good_order h g) e))))
    where
      go : (v : Verdict) → (v ≡ Ok tt → moving_average_is_full (moving_average_of r.time r.value h) (r.time x) ≡ window_is_full (map r.time h) (r.time x))
          → after_judged v (r.alarm x) (moving_average_is_full (moving_average_of r.time r.value h) (r.time x)) ≡ after_judged v (r.alarm x) (window_is_full (map r.time h) (r.time x))
      go (Ok tt) f = rw (f refl) refl
      go (Err r) f = unfold after_judged verdict_or_refused in refl

  -- ---- an accepted row keeps all that: no refusal fits it
  module _ (x : R) (h : List R) (e : verdict h x ≡ Ok tt) where
    abbrev judged : Verdict
    judged = verdict_after r.time r.all_finite h x

    abbrev out_of_range : Bool
    out_of_range = not (alarms_fit (r.alarm x))

    ranged : (verdict_or_refused judged out_of_range AlarmOutOfRange ≡ Ok tt) × (window_is_full (map r.time h) (r.time x) ≡ false)
    unfolding after_judged
    ranged = neither_fits (verdict_or_refused judged out_of_range AlarmOutOfRange) (window_is_full (map r.time h) (r.time x)) WindowFull e

    pub accepted_judged : judged ≡ Ok tt
    accepted_judged = (neither_fits judged out_of_range AlarmOutOfRange ranged.0).0

    pub accepted_fits : T (alarms_fit (r.alarm x))
    accepted_fits = go (alarms_fit (r.alarm x)) (neither_fits judged out_of_range AlarmOutOfRange ranged.0).1
      where
        go : (b : Bool) → not b ≡ false → T b
        go true e = tt
        go false e = absurd (true≢false e)

  pub good_more : (x : R) (h : List R) → T (good h) → verdict h x ≡ Ok tt → T (good (x ∷ h))
  good_more x h g e =
      let o = judged_order x h (good_order h g) (accepted_judged x h e) in
      and_i (in_order r.time (x ∷ h)) (accepted (map r.time (x ∷ h))) o (accepted_cons (r.time x) (map r.time h) (in_time x h o) (ranged x h e).1 (good_window h g))

  pub good_none : T (good [])
  unfolding accepted
  good_none = tt

  -- the accepted rows of every list are so
  pub accepted_good : (l : List R) → T (good (whole.accepted verdict l))
  accepted_good l = good_accepted verdict good good_none good_more l
