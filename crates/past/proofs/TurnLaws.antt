-- The hold and the pulse in words of readings alone: where each turns, and what it takes there. Assumes nothing.
use Prim.Native.Nat.{ℕ, zero, suc}
use mathlib.Core.Path.{◌≡◌, refl, ap, ◌∙◌, fun_ext}
use mathlib.Core.Bool.{Bool, false, not, ◌&&◌, ◌||◌, beq, cond}
use mathlib.Core.List.{List, [], ◌∷◌}
use lib.ListN.{length, drop}
use lib.Ieee.{Float, le}
use Rattle.past.specs.Past.{some, every, since_with, row0, rises}
use Rattle.past.specs.Runs.{since_time, gaps, running}
use Rattle.past.specs.Turns.{values, turns, changes, hold_here, hold, waits, pulse_here, pulse}

-- ---- the values at the earlier rows are the values of the earlier pasts
values_drop : {A : Type 0} (f : List A → List Bool → Bool) (k : ℕ) (h : List A) → drop k (values f h) ≡ values f (drop k h)
unfolding values
values_drop f zero h = refl
values_drop f (suc k) [] = refl
values_drop f (suc k) (x ∷ h) = values_drop f k h

length_values : {A : Type 0} (f : List A → List Bool → Bool) (h : List A) → length (values f h) ≡ length h
unfolding values
length_values f [] = refl
length_values f (x ∷ h) = ap suc (length_values f h)

values_since : {A : Type 0} (F : List A → List Bool → Bool) (q p : List Bool → Bool) (f : ℕ → Bool) (h : List A)
    → since_with q p f (values F h) ≡ since_with (λ s. q (values F s)) (λ s. p (values F s)) f h
unfolding since_with
values_since F q p f h = simp (values_drop F, length_values F)

row0_values : {A : Type 0} (F : List A → List Bool → Bool) (h : List A) → row0 (values F h) ≡ row0 h
unfolding values
row0_values F [] = refl
row0_values F (x ∷ []) = refl
row0_values F (x ∷ (y ∷ h)) = refl

drop_one : {A : Type 0} (k : ℕ) (h : List A) → drop 1 (drop k h) ≡ drop (suc k) h
drop_one zero [] = refl
drop_one zero (x ∷ h) = refl
drop_one (suc k) [] = refl
drop_one (suc k) (x ∷ h) = drop_one k h

-- ---- the hold
module _ {A : Type 0} (time : A → Float) (fall rise : Float) (u : List A → Bool) where
  abbrev hold_at : List A → Bool
  hold_at h = hold time fall rise u h

  -- row 0, or a change of the hold
  unfoldable pub turning : List A → Bool
  turning h = row0 h || not (beq (hold_at h) (hold_at (drop 1 h)))

  turns_is : (h : List A) → turns (values (hold_here time fall rise u) h) ≡ turning h
  unfolding turns turning hold
  turns_is h = rw (row0_values (hold_here time fall rise u) h, values_drop (hold_here time fall rise u) 1 h) refl

  -- row 0 takes the input; so does a row where the input differs and the gaps since the hold last turned reach the required time; any other row keeps
  pub hold_law : (x : A) (h : List A)
      → hold_at (x ∷ h)
      ≡ cond (row0 (x ∷ h) || (not (beq (u (x ∷ h)) (hold_at h)) && since_with (λ s. not (turning s)) turning (λ k. le (cond (hold_at h) fall rise) (gaps time (suc k) (x ∷ h))) h)) (u (x ∷ h)) (hold_at h)
  unfolding hold
  hold_law x h = unfold values hold_here changes in (rw (values_since (hold_here time fall rise u) (λ zs. not (turns zs)) turns (λ k. le (cond (hold_at h) fall rise) (gaps time (suc k) (x ∷ h))) h) (simp turns_is))

  pub hold_none : hold_at [] ≡ false
  unfolding hold values
  hold_none = refl

-- ---- the pulse
module _ {A : Type 0} (time : A → Float) (n : Float) (request : List A → Bool) where
  -- a request here, and no pulse on the row before
  unfoldable pub gate : List A → Bool
  gate h = request h && not (pulse time n request (drop 1 h))

  waits_is : (x : A) (h : List A) (k : ℕ) → waits time n request (x ∷ h) (values (pulse_here time n request) h) k ≡ gate (drop k (x ∷ h))
  unfolding waits gate pulse
  waits_is x h k = rw (values_drop (pulse_here time n request) k h, drop_one k (x ∷ h)) refl

  -- the pulse is on where the run of the gate up to here has lasted n
  pub pulse_law : (h : List A) → pulse time n request h ≡ running time n gate h
  unfolding pulse values running
  pulse_law [] = unfold since_with some in refl
  pulse_law (x ∷ h) = unfold pulse_here since_with rises in
      (ap (λ (g : ℕ → Bool). some (length (x ∷ h)) (λ k. g k && (row0 (drop {A = A} k (x ∷ h)) || not (g (suc k))) && every k g && le n (since_time time k (x ∷ h))))
      (fun_ext (waits_is x h)) ∙ simp drop_one)
