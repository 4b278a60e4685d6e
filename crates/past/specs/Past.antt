-- Reading a past with no state. A past is the list of the accepted rows up to here, the newest first, so
-- its tails are the pasts of the earlier rows: `drop k h` is the past of the row that stands k rows before here, and its end, [], is before row 0.
-- A reading is a test of a past. `since` and its kin are the past-time operators of runtime verification.
use Rattle.std.specs.Prelude.{ℕ, zero, suc, Bool, true, false, not, ◌&&◌, ◌||◌, cond, List, [], ◌∷◌, length, drop}

-- f holds of some number below n
unfoldable pub some : ℕ → (ℕ → Bool) → Bool
some zero f = false
some (suc n) f = f 0 || some n (λ k. f (suc k))

-- f holds of every number below n
unfoldable pub every : ℕ → (ℕ → Bool) → Bool
every zero f = true
every (suc n) f = f 0 && every n (λ k. f (suc k))

-- of n rows counted back from here, 0 being here, here is the first at which f holds: f holds of 0, and of no other number below n
unfoldable pub first : ℕ → (ℕ → Bool) → Bool
first zero f = false
first (suc n) f = f 0 && every n (λ k. not (f (suc k)))

-- the least number below n of which f holds; n where there is none
unfoldable pub least : ℕ → (ℕ → Bool) → ℕ
least zero f = zero
least (suc n) f = cond (f 0) 0 (suc (least n (λ k. f (suc k))))

module _ {A : Type 0} where
  -- at some row of h, k rows ago, p holds; q holds at every row after it up to here; and f holds of k
  unfoldable pub since_with : (q p : List A → Bool) → (ℕ → Bool) → List A → Bool
  since_with q p f h = some (length h) (λ k. p (drop k h) && every k (λ j. q (drop j h)) && f k)

  -- p holds at some row of h, and q at every row after it up to here
  unfoldable pub since : (q p : List A → Bool) → List A → Bool
  since q p h = since_with q p (λ k. true) h

  -- here is row 0, the first accepted row
  abbrev pub row0 : List A → Bool
  row0 [] = false
  row0 (x ∷ []) = true
  row0 (x ∷ (y ∷ h)) = false

  -- u rises, or turns true: it is true here, and here is row 0 or follows a row where it is false
  unfoldable pub rises : (List A → Bool) → List A → Bool
  rises u h = u h && (row0 h || not (u (drop 1 h)))

  -- u has risen at some row up to here
  unfoldable pub risen : (List A → Bool) → List A → Bool
  risen u h = some (length h) (λ k. rises u (drop k h))

  -- how many rows ago u rose last: where u is true here, its unbroken true run up to here starts there
  unfoldable pub run_start : (List A → Bool) → List A → ℕ
  run_start u h = least (length h) (λ k. rises u (drop k h))

  -- the set signal has risen at some row, and no clearing row lies from there to here, ends counted
  unfoldable pub latched : (set clear : List A → Bool) → List A → Bool
  latched set clear h = since (λ s. not (clear s)) (λ s. rises set s && not (clear s)) h
