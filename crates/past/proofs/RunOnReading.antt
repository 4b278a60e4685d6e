-- The timer that runs on: its mark reads as `lapsed`, its elapsed time as `since_rise`, and the edge on its mark as `lapses`. Assumes nothing.
use Rattle.std.specs.Prelude.{Option, None, Some}
use mathlib.Core.Path.{◌≡◌, refl, ◌∙◌}
use mathlib.Core.Bool.{Bool, true, false, not, ◌&&◌, ◌||◌, cond}
use mathlib.Core.List.{List, [], ◌∷◌}
use lib.Ieee.{Float, binary64, sub, le}
use Rattle.reals.specs.Constants.{plus_zero}
use Rattle.reals.specs.Seen.{seen_elapsed}
use Rattle.reals.specs.Switch.{switch}
use Rattle.reals.proofs.Truth.{table2}
use Rattle.logical.specs.declared.held_timer.HeldTimerState.{HeldTimerState}
use Rattle.logical.specs.Edge.{edge_output}
use Rattle.logical.specs.HeldTimer.{held_timer_new}
use Rattle.logical.specs.HourTimer.{run_on_timer_output, run_on_timer_update}
use Rattle.past.specs.Past.{risen}
use Rattle.past.specs.Runs.{time_of, lapses, lapsed, since_rise, run_on_timer}
use Rattle.past.specs.Stepped.{stepped}
use Rattle.past.proofs.RunLaws.{last_rise}
use Rattle.past.proofs.LapseLaws.{risen_step, risen_none, since_rise_step, lapsed_step, lapsed_none, lapses_is_rise}
use Rattle.past.proofs.LatchReading.{edge_of, edge_output_lem}
use Rattle.past.proofs.Stepped.{stepped_is}

-- u is false before row 0, and the threshold n is above 0
module _ {A : Type 0} (time : A → Float) (n : Float) (u : List A → Bool) (e : u [] ≡ false) (positive : le n plus_zero ≡ false) where
  -- the time of the last rise, if there was one
  abbrev pub rise_of : List A → Option Float
  rise_of h = cond (risen u h) (Some (last_rise time u e h)) None

  abbrev pub run_on_timer_of : List A → HeldTimerState
  run_on_timer_of h = record { threshold = n; entry_time = rise_of h; prev_u = u h; passed = lapsed time n u h }

  pub run_on_timer_new : held_timer_new n ≡ run_on_timer_of []
  unfolding held_timer_new
  run_on_timer_new = rw (positive, e, risen_none time u e, lapsed_none time u e n) refl

  run_on_elapsed : (x : A) (h : List A) → switch (u (x ∷ h) && not (u h)) plus_zero (seen_elapsed (rise_of h) (time x)) ≡ since_rise time u (x ∷ h)
  unfolding switch seen_elapsed
  run_on_elapsed x h = rw (since_rise_step time u e x h) (go (u (x ∷ h) && not (u h)) (risen u h) (last_rise time u e h))
    where
      go : (r o : Bool) (s : Float) → cond r plus_zero (seen_elapsed (cond o (Some s) None) (time x)) ≡ cond (not r && o) (sub binary64 (time x) s) plus_zero
      go true o s = refl
      go false true s = refl
      go false false s = refl

  run_on_passed : (x : A) (h : List A) → (run_on_timer_output (run_on_timer_of h) (time x) (u (x ∷ h))).passed ≡ lapsed time n u (x ∷ h)
  unfolding run_on_timer_output switch seen_elapsed
  run_on_passed x h = rw (positive, lapsed_step time u e n x h) (go (u (x ∷ h) && not (u h)) (lapsed time n u h) (risen u h) (last_rise time u e h))
    where
      go : (r l o : Bool) (s : Float)
          → cond r false (cond (le n (cond r plus_zero (seen_elapsed (cond o (Some s) None) (time x)))) true l) ≡ (not r && (o && le n (sub binary64 (time x) s) || l))
      go true l o s = refl
      go false l true s = table2 (λ d l. cond d true l) (λ d l. d || l) tt (le n (sub binary64 (time x) s)) l
      go false l false s = rw positive refl

  pub run_on_timer_output_lem : (x : A) (h : List A) → run_on_timer_output (run_on_timer_of h) (time x) (u (x ∷ h)) ≡ run_on_timer time n u (x ∷ h)
  unfolding run_on_timer_output
  run_on_timer_output_lem x h = λ i. record { passed = run_on_passed x h i; elapsed = run_on_elapsed x h i }

  rise_step : (x : A) (h : List A) → cond (u (x ∷ h) && not (u h)) (Some (time x)) (rise_of h) ≡ rise_of (x ∷ h)
  rise_step x h = rw (risen_step time u e x h) (go (u (x ∷ h) && not (u h)) (risen u h) (last_rise time u e h))
    where
      go : (r o : Bool) (s : Float) → cond r (Some (time x)) (cond o (Some s) None) ≡ cond (r || o) (Some (cond r (time x) s)) None
      go true o s = refl
      go false o s = refl

  pub run_on_timer_update_lem : (x : A) (h : List A) → run_on_timer_update (run_on_timer_of h) (time x) (u (x ∷ h)) ≡ run_on_timer_of (x ∷ h)
  unfolding run_on_timer_update
  run_on_timer_update_lem x h = rw (run_on_timer_output_lem x h, rise_step x h) refl

  pub run_on_timer_reads : (x : A) (h : List A)
      → run_on_timer_output (stepped (held_timer_new n) (λ s p. run_on_timer_update s (time_of time p) (u p)) h) (time x) (u (x ∷ h)) ≡ run_on_timer time n u (x ∷ h)
  run_on_timer_reads x h = rw (stepped_is (held_timer_new n) (λ s p. run_on_timer_update s (time_of time p) (u p)) run_on_timer_of run_on_timer_new run_on_timer_update_lem h) (run_on_timer_output_lem x h)

  -- the edge on its mark
  pub lapse_output : (x : A) (h : List A) → edge_output (edge_of (lapsed time n u) h) (lapsed time n u (x ∷ h)) ≡ lapses time n u (x ∷ h)
  lapse_output x h = edge_output_lem (lapsed time n u) (lapsed_none time u e n) x h ∙ lapses_is_rise time u e n x h
