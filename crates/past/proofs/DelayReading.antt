-- The economizer's delay: true at once on row 0, later when the gaps since its input's rise add up to the delay, and it reads as `delayed`. Assumes nothing.
use mathlib.Core.Path.{◌≡◌, refl}
use mathlib.Core.Bool.{Bool, true, false, ◌&&◌, ◌||◌, cond}
use mathlib.Core.List.{List, [], ◌∷◌}
use lib.Dec.{T}
use lib.Ieee.{Float, binary64, add, sub, le}
use Rattle.reals.specs.Constants.{plus_zero}
use Rattle.reals.specs.Seen.{seen_gap}
use Rattle.reals.specs.Switch.{switch}
use Rattle.logical.specs.declared.true_delay.TrueDelayState.{TrueDelayState}
use Rattle.logical.specs.TrueDelay.{true_delay_new, true_delay_next_timer, true_delay_output, true_delay_update}
use Rattle.past.specs.Acceptance.{last_time}
use Rattle.past.specs.Runs.{time_of, delayed}
use Rattle.past.specs.Stepped.{stepped, in_order}
use Rattle.past.proofs.RunLaws.{run_gaps, delayed_step, delayed_none}
use Rattle.past.proofs.Stepped.{stepped_in_order, gap_here}

-- u is false before row 0, and the delay n is above 0
module _ {A : Type 0} (time : A → Float) (n : Float) (u : List A → Bool) (e : u [] ≡ false) (positive : le n plus_zero ≡ false) where
  abbrev pub true_delay_of : List A → TrueDelayState
  true_delay_of h = record { previous_time = last_time time h; previous_input = u h; held_output = delayed time n u h; timer = cond (delayed time n u h) n (run_gaps time u e h) }

  pub true_delay_new_lem : true_delay_new ≡ true_delay_of []
  unfolding true_delay_new
  true_delay_new_lem = rw (e, delayed_none time u e n) refl

  pub true_delay_output_lem : (x : A) (h : List A) → T (in_order time (x ∷ h)) → true_delay_output (true_delay_of h) (time x) (u (x ∷ h)) n ≡ delayed time n u (x ∷ h)
  unfolding true_delay_output true_delay_next_timer switch seen_gap
  true_delay_output_lem x [] o = rw (delayed_step time u e n positive x []) refl
  true_delay_output_lem x (z ∷ h) o = rw (delayed_step time u e n positive x (z ∷ h), gap_here time x z h o) (go (u (x ∷ (z ∷ h))) (u (z ∷ h)) (delayed time n u (z ∷ h)) (run_gaps time u e (z ∷ h)))
    where
      go : (a b d : Bool) (g : Float)
          → (a && (false || d || le n (cond (a && b) (add binary64 (cond d n g) (sub binary64 (time x) (time z))) plus_zero))) ≡ (a && (false || (d || b && le n (add binary64 g (sub binary64 (time x) (time z))))))
      go true true true g = refl
      go true true false g = refl
      go true false true g = refl
      go true false false g = positive
      go false b d g = refl

  -- the timer that the Rust keeps: the delay where it is done, else the gaps of the run
  timer_is : (x : A) (h : List A) → T (in_order time (x ∷ h))
      → cond (delayed time n u (x ∷ h)) n (true_delay_next_timer (true_delay_of h) (time x) (u (x ∷ h))) ≡ cond (delayed time n u (x ∷ h)) n (run_gaps time u e (x ∷ h))
  unfolding true_delay_next_timer switch seen_gap
  timer_is x [] o = rw e (go (u (x ∷ [])) _ _)
    where
      go : (a : Bool) (p q : Float) → cond (delayed time n u (x ∷ [])) n (cond (a && false) p plus_zero) ≡ cond (delayed time n u (x ∷ [])) n (cond (a && false) q plus_zero)
      go true p q = refl
      go false p q = refl
  timer_is x (z ∷ h) o = rw (delayed_step time u e n positive x (z ∷ h), gap_here time x z h o) (go (u (x ∷ (z ∷ h))) (u (z ∷ h)) (delayed time n u (z ∷ h)) (run_gaps time u e (z ∷ h)) (sub binary64 (time x) (time z)))
    where
      go : (a b d : Bool) (g gap : Float)
          → cond (a && (false || (d || b && le n (add binary64 g gap)))) n (cond (a && b) (add binary64 (cond d n g) gap) plus_zero) ≡ cond (a && (false || (d || b && le n (add binary64 g gap)))) n (cond (a && b) (add binary64 g gap) plus_zero)
      go true b true g gap = refl
      go true b false g gap = refl
      go false b d g gap = refl

  pub true_delay_update_lem : (x : A) (h : List A) → T (in_order time (x ∷ h)) → true_delay_update (true_delay_of h) (time x) (u (x ∷ h)) n ≡ true_delay_of (x ∷ h)
  unfolding true_delay_update switch
  true_delay_update_lem x h o = rw (true_delay_output_lem x h o, timer_is x h o) refl

  pub true_delay_reads : (x : A) (h : List A) → T (in_order time (x ∷ h)) → T (in_order time h)
      → true_delay_output (stepped true_delay_new (λ s p. true_delay_update s (time_of time p) (u p) n) h) (time x) (u (x ∷ h)) n ≡ delayed time n u (x ∷ h)
  true_delay_reads x h o k = rw (stepped_in_order true_delay_new (λ s p. true_delay_update s (time_of time p) (u p) n) true_delay_of time true_delay_new_lem true_delay_update_lem h k) (true_delay_output_lem x h o)
