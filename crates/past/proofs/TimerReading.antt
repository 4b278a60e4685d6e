-- The timers and the 2 s delay: freeze's timer holds its pass, so its mark reads as `passed`; relief's timer and delay test the present row only, and read as
-- `running`. The elapsed time of both timers reads as `elapsed`. Assumes nothing.
use Rattle.std.specs.Prelude.{Option, None, Some, is_none}
use mathlib.Core.Path.{◌≡◌, refl, sym, ap, ◌∙◌}
use mathlib.Core.Bool.{Bool, true, false, not, ◌&&◌, ◌||◌, cond}
use mathlib.Core.List.{List, [], ◌∷◌}
use lib.Dec.{T}
use lib.Ieee.{Float, binary64, sub, le}
use lib.Ieee.Scale.{finite}
use Rattle.reals.specs.Constants.{plus_zero}
use Rattle.reals.specs.Seen.{seen_elapsed}
use Rattle.reals.specs.Switch.{switch}
use Rattle.reals.proofs.Truth.{table2}
use Rattle.reals.proofs.Times.{self_gap}
use Rattle.logical.specs.declared.held_timer.HeldTimerState.{HeldTimerState}
use Rattle.logical.specs.declared.present_timer.PresentTimerState.{PresentTimerState}
use Rattle.logical.specs.declared.true_delay_on_init.TrueDelayOnInitState.{TrueDelayOnInitState}
use Rattle.logical.specs.Timer.{entry_time, elapsed_time}
use Rattle.logical.specs.HeldTimer.{held_timer_new, held_timer_output, held_timer_update}
use Rattle.logical.specs.PresentTimer.{present_timer_new, present_timer_output, present_timer_update}
use Rattle.logical.specs.TrueDelayOnInit.{true_delay_on_init_new, true_delay_on_init_output, true_delay_on_init_update}
use Rattle.past.specs.Runs.{time_of, passed, running, elapsed, held_timer, present_timer}
use Rattle.past.specs.Stepped.{stepped}
use Rattle.past.proofs.RunLaws.{last_rise, passed_step, passed_none, running_step, elapsed_step}
use Rattle.past.proofs.Stepped.{stepped_is}

-- u is false before row 0, and the threshold n is above 0
module _ {A : Type 0} (time : A → Float) (n : Float) (u : List A → Bool) (e : u [] ≡ false) (positive : le n plus_zero ≡ false) where
  -- the entry time: that of the last rise while u is true, none while it is false
  abbrev pub entry_of : List A → Option Float
  entry_of h = cond (u h) (Some (last_rise time u e h)) None

  entry_step : (x : A) (h : List A) → entry_time (entry_of h) (u h) (time x) (u (x ∷ h)) ≡ entry_of (x ∷ h)
  unfolding entry_time
  entry_step x h = go (u (x ∷ h)) (u h) (last_rise time u e h)
    where
      go : (a b : Bool) (r : Float) → cond a (cond b (cond b (Some r) None) (Some (time x))) None ≡ cond a (Some (cond (a && not b) (time x) r)) None
      go true true r = refl
      go true false r = refl
      go false b r = refl

  elapsed_reads : (x : A) (h : List A) → elapsed_time (entry_of h) (u h) (time x) (u (x ∷ h)) ≡ elapsed time u (x ∷ h)
  unfolding elapsed_time switch seen_elapsed
  elapsed_reads x h = rw (elapsed_step time u e x h) (go (u (x ∷ h)) (u h) (last_rise time u e h))
    where
      go : (a b : Bool) (r : Float) → cond (a && b) (seen_elapsed (cond b (Some r) None) (time x)) plus_zero ≡ cond (a && b) (sub binary64 (time x) r) plus_zero
      go true true r = refl
      go true false r = refl
      go false b r = refl

  -- ---- freeze's timer
  abbrev pub held_timer_of : List A → HeldTimerState
  held_timer_of h = record { threshold = n; entry_time = entry_of h; prev_u = u h; passed = passed time n u h }

  pub held_timer_new_lem : held_timer_new n ≡ held_timer_of []
  unfolding held_timer_new
  held_timer_new_lem = rw (positive, e, passed_none time u e n) refl

  -- where u was false the timer had not passed
  not_passed : (h : List A) → passed time n u h ≡ (u h && passed time n u h)
  not_passed [] = rw (passed_none time u e n, e) refl
  not_passed (y ∷ h) = rw (passed_step time u e n y h) (table2 (λ a b. a && b) (λ a b. a && (a && b)) tt (u (y ∷ h)) (u h && le n (sub binary64 (time y) (last_rise time u e h)) || passed time n u h))

  held_passed : (x : A) (h : List A) → (held_timer_output (held_timer_of h) (time x) (u (x ∷ h))).passed ≡ passed time n u (x ∷ h)
  unfolding held_timer_output elapsed_time switch seen_elapsed
  held_passed x h =
      rw (passed_step time u e n x h, positive)
      (ap (λ (p : Bool). cond (u (x ∷ h) && not (u h)) false (cond (u (x ∷ h) && le n (cond (u (x ∷ h) && u h) (seen_elapsed (entry_of h) (time x)) plus_zero)) true (cond (not (u (x ∷ h)) && u h) false p))) (not_passed h)
      ∙ go (u (x ∷ h)) (u h) (passed time n u h) (last_rise time u e h)
      ∙ ap (λ (p : Bool). u (x ∷ h) && (u h && le n (sub binary64 (time x) (last_rise time u e h)) || p)) (sym (not_passed h)))
    where
      go : (a b p : Bool) (r : Float)
          → cond (a && not b) false (cond (a && le n (cond (a && b) (seen_elapsed (cond b (Some r) None) (time x)) plus_zero)) true (cond (not a && b) false (b && p)))
          ≡ (a && (b && le n (sub binary64 (time x) r) || b && p))
      go true true p r = table2 (λ d c. cond d true c) (λ d c. d || c) tt (le n (sub binary64 (time x) r)) p
      go true false p r = refl
      go false true p r = refl
      go false false p r = refl

  pub held_timer_output_lem : (x : A) (h : List A) → held_timer_output (held_timer_of h) (time x) (u (x ∷ h)) ≡ held_timer time n u (x ∷ h)
  unfolding held_timer_output
  held_timer_output_lem x h = λ i. record { passed = held_passed x h i; elapsed = elapsed_reads x h i }

  pub held_timer_update_lem : (x : A) (h : List A) → held_timer_update (held_timer_of h) (time x) (u (x ∷ h)) ≡ held_timer_of (x ∷ h)
  unfolding held_timer_update
  held_timer_update_lem x h = rw (held_timer_output_lem x h, entry_step x h) refl

  pub held_timer_reads : (x : A) (h : List A)
      → held_timer_output (stepped (held_timer_new n) (λ s p. held_timer_update s (time_of time p) (u p)) h) (time x) (u (x ∷ h)) ≡ held_timer time n u (x ∷ h)
  held_timer_reads x h = rw (stepped_is (held_timer_new n) (λ s p. held_timer_update s (time_of time p) (u p)) held_timer_of held_timer_new_lem held_timer_update_lem h) (held_timer_output_lem x h)

  -- ---- relief's timer
  abbrev pub present_timer_of : List A → PresentTimerState
  present_timer_of h = record { threshold = n; entry_time = entry_of h; prev_u = u h }

  pub present_timer_new_lem : present_timer_new n ≡ present_timer_of []
  unfolding present_timer_new
  present_timer_new_lem = rw e refl

  -- at the rise itself nothing has run, since t − t is 0
  at_rise : (x : A) → T (finite (time x)) → le n (sub binary64 (time x) (time x)) ≡ false
  at_rise x f = rw (self_gap (time x) f) positive

  present_passed : (x : A) (h : List A) → T (finite (time x)) → (present_timer_output (present_timer_of h) (time x) (u (x ∷ h))).passed ≡ running time n u (x ∷ h)
  unfolding present_timer_output elapsed_time switch seen_elapsed
  present_passed x h f = rw (running_step time u e n x h) (go (u (x ∷ h)) (u h) (last_rise time u e h))
    where
      go : (a b : Bool) (r : Float) → (a && b && le n (cond (a && b) (seen_elapsed (cond b (Some r) None) (time x)) plus_zero)) ≡ (a && le n (sub binary64 (time x) (cond (a && not b) (time x) r)))
      go true true r = refl
      go true false r = sym (at_rise x f)
      go false b r = refl

  pub present_timer_output_lem : (x : A) (h : List A) → T (finite (time x)) → present_timer_output (present_timer_of h) (time x) (u (x ∷ h)) ≡ present_timer time n u (x ∷ h)
  unfolding present_timer_output
  present_timer_output_lem x h f = λ i. record { passed = present_passed x h f i; elapsed = elapsed_reads x h i }

  pub present_timer_update_lem : (x : A) (h : List A) → present_timer_update (present_timer_of h) (time x) (u (x ∷ h)) ≡ present_timer_of (x ∷ h)
  unfolding present_timer_update
  present_timer_update_lem x h = rw (entry_step x h) refl

  pub present_timer_reads : (x : A) (h : List A) → T (finite (time x))
      → present_timer_output (stepped (present_timer_new n) (λ s p. present_timer_update s (time_of time p) (u p)) h) (time x) (u (x ∷ h)) ≡ present_timer time n u (x ∷ h)
  present_timer_reads x h f = rw (stepped_is (present_timer_new n) (λ s p. present_timer_update s (time_of time p) (u p)) present_timer_of present_timer_new_lem present_timer_update_lem h) (present_timer_output_lem x h f)

  -- its elapsed time, over any times at all
  pub present_elapsed_reads : (x : A) (h : List A)
      → (present_timer_output (stepped (present_timer_new n) (λ s p. present_timer_update s (time_of time p) (u p)) h) (time x) (u (x ∷ h))).elapsed ≡ elapsed time u (x ∷ h)
  unfolding present_timer_output
  present_elapsed_reads x h = rw (stepped_is (present_timer_new n) (λ s p. present_timer_update s (time_of time p) (u p)) present_timer_of present_timer_new_lem present_timer_update_lem h) (elapsed_reads x h)

  -- ---- relief's delay
  abbrev pub true_delay_on_init_of : List A → TrueDelayOnInitState
  true_delay_on_init_of h = record { delay_time = n; entry_time = entry_of h; previous_u = u h }

  pub true_delay_on_init_new_lem : true_delay_on_init_new n ≡ true_delay_on_init_of []
  unfolding true_delay_on_init_new
  true_delay_on_init_new_lem = rw e refl

  pub true_delay_on_init_output_lem : (x : A) (h : List A) → T (finite (time x)) → true_delay_on_init_output (true_delay_on_init_of h) (time x) (u (x ∷ h)) ≡ running time n u (x ∷ h)
  unfolding true_delay_on_init_output seen_elapsed
  true_delay_on_init_output_lem x h f = rw (running_step time u e n x h) (go (u (x ∷ h)) (u h) (last_rise time u e h))
    where
      go : (a b : Bool) (r : Float)
          → (a && not (is_none (cond b (Some r) None)) && le n (seen_elapsed (cond b (Some r) None) (time x))) ≡ (a && le n (sub binary64 (time x) (cond (a && not b) (time x) r)))
      go true true r = refl
      go true false r = sym (at_rise x f)
      go false b r = refl

  pub true_delay_on_init_update_lem : (x : A) (h : List A) → true_delay_on_init_update (true_delay_on_init_of h) (time x) (u (x ∷ h)) ≡ true_delay_on_init_of (x ∷ h)
  unfolding true_delay_on_init_update
  true_delay_on_init_update_lem x h = rw (entry_step x h) refl

  pub true_delay_on_init_reads : (x : A) (h : List A) → T (finite (time x))
      → true_delay_on_init_output (stepped (true_delay_on_init_new n) (λ s p. true_delay_on_init_update s (time_of time p) (u p)) h) (time x) (u (x ∷ h)) ≡ running time n u (x ∷ h)
  true_delay_on_init_reads x h f = rw (stepped_is (true_delay_on_init_new n) (λ s p. true_delay_on_init_update s (time_of time p) (u p)) true_delay_on_init_of true_delay_on_init_new_lem true_delay_on_init_update_lem h) (true_delay_on_init_output_lem x h f)
