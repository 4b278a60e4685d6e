-- The words of a past, one row further. Assumes nothing.
use Prim.Native.Nat.{ℕ, zero, suc}
use mathlib.Core.Path.{◌≡◌, refl, ap, ap₂, ◌∙◌}
use mathlib.Core.Bool.{Bool, true, false, not, ◌&&◌, ◌||◌}
use mathlib.Core.List.{List, [], ◌∷◌}
use lib.ListN.{length, drop}
use Rattle.reals.proofs.Truth.{table1, table2, table4, table5}
use Rattle.past.specs.Past.{some, every, since_with, since, rises, latched}

-- ---- a condition that does not turn on the number comes out of `some`
pull : (n : ℕ) (a c f : ℕ → Bool) (b : Bool) → some n (λ k. a k && (b && c k) && f k) ≡ (b && some n (λ k. a k && c k && f k))
unfolding some
pull zero a c f true = refl
pull zero a c f false = refl
pull (suc n) a c f true = refl
pull (suc n) a c f false = ap₂ (λ (x y : Bool). x || y) (table2 (λ x y. x && false && y) (λ x y. false) tt (a 0) (f 0)) (pull n (λ k. a (suc k)) (λ k. c (suc k)) (λ k. f (suc k)) false)

-- `some` of a choice is a choice of `some`
some_or : (n : ℕ) (a f g : ℕ → Bool) → some n (λ k. a k && (f k || g k)) ≡ (some n (λ k. a k && f k) || some n (λ k. a k && g k))
unfolding some
some_or zero a f g = refl
some_or (suc n) a f g =
    ap (λ (x : Bool). a 0 && (f 0 || g 0) || x) (some_or n (λ k. a (suc k)) (λ k. f (suc k)) (λ k. g (suc k)))
    ∙ table5 (λ x y z v w. x && (y || z) || (v || w)) (λ x y z v w. x && y || v || (x && z || w)) tt (a 0) (f 0) (g 0) (some n (λ k. a (suc k) && f (suc k))) (some n (λ k. a (suc k) && g (suc k)))

module _ {A : Type 0} where
  -- p held k rows ago and q since: here, or a row earlier with q here
  pub since_with_step : (q p : List A → Bool) (f : ℕ → Bool) (x : A) (h : List A)
      → since_with q p f (x ∷ h) ≡ (p (x ∷ h) && f 0 || q (x ∷ h) && since_with q p (λ k. f (suc k)) h)
  unfolding since_with some every
  since_with_step q p f x h =
      ap₂ (λ (a b : Bool). a || b) (table2 (λ a b. a && true && b) (λ a b. a && b) tt (p (x ∷ h)) (f 0))
      (pull (length h) (λ k. p (drop {A = A} k h)) (λ k. every k (λ j. q (drop {A = A} j h))) (λ k. f (suc k)) (q (x ∷ h)))

  pub since_with_none : (q p : List A → Bool) (f : ℕ → Bool) → since_with q p f [] ≡ false
  unfolding since_with some
  since_with_none q p f = refl

  pub since_with_or : (q p : List A → Bool) (f g : ℕ → Bool) (h : List A) → since_with q p (λ k. f k || g k) h ≡ (since_with q p f h || since_with q p g h)
  unfolding since_with
  since_with_or q p f g h = some_or (length h) (λ k. p (drop {A = A} k h) && every k (λ j. q (drop {A = A} j h))) f g

  pub since_step : (q p : List A → Bool) (x : A) (h : List A) → since q p (x ∷ h) ≡ (p (x ∷ h) || q (x ∷ h) && since q p h)
  unfolding since
  since_step q p x h = since_with_step q p (λ k. true) x h ∙ ap (λ (b : Bool). b || q (x ∷ h) && since_with q p (λ k. true) h) (table1 (λ a. a && true) (λ a. a) tt (p (x ∷ h)))

  pub since_none : (q p : List A → Bool) → since q p [] ≡ false
  unfolding since
  since_none q p = since_with_none q p (λ k. true)

  -- a thing that is false before row 0 rises where it is true and was not
  pub rises_step : (u : List A → Bool) → u [] ≡ false → (x : A) (h : List A) → rises u (x ∷ h) ≡ (u (x ∷ h) && not (u h))
  unfolding rises
  rises_step u e x [] = rw e refl
  rises_step u e x (y ∷ h) = refl

  -- a latch: clear wins, else a rise sets, else it keeps
  pub latched_step : (set clear : List A → Bool) → set [] ≡ false → (x : A) (h : List A)
      → latched set clear (x ∷ h) ≡ (not (clear (x ∷ h)) && ((set (x ∷ h) && not (set h)) || latched set clear h))
  unfolding latched
  latched_step set clear e x h =
      rw (since_step (λ s. not (clear s)) (λ s. rises set s && not (clear s)) x h, rises_step set e x h)
      (table4 (λ a b c d. a && not b && not c || not c && d) (λ a b c d. not c && (a && not b || d)) tt (set (x ∷ h)) (set h) (clear (x ∷ h)) (latched set clear h))

  pub latched_none : (set clear : List A → Bool) → latched set clear [] ≡ false
  unfolding latched
  latched_none set clear = since_none (λ s. not (clear s)) (λ s. rises set s && not (clear s))
