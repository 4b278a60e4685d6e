-- Laws of lists that the library lacks. Assumes nothing.
use Prim.Native.Nat.{ℕ, zero, suc, ◌+◌, ◌-◌, ◌≤◌, min}
use native.Mathlib.Omega.{arith}
use native.Mathlib.Numerals.{unary_clauses}
use mathlib.Core.Path.{◌≡◌, refl, ap, ◌∙◌}
use mathlib.Core.List.{List, [], ◌∷◌, ◌++◌, map, drop_last}
use lib.ListN.{length, take, drop}
use lib.Seq.{take-add, drop_at, length-take-le, take-take}

module _ {A B : Type 0} (f : A → B) where
  pub map_append : (l k : List A) → map f (l ++ k) ≡ map f l ++ map f k
  map_append [] k = refl
  map_append (x ∷ l) k = ap (λ r. f x ∷ r) (map_append l k)

  pub map_take : (n : ℕ) (l : List A) → map f (take n l) ≡ take n (map f l)
  map_take zero l = refl
  map_take (suc n) [] = refl
  map_take (suc n) (x ∷ l) = ap (λ r. f x ∷ r) (map_take n l)

  pub map_drop : (n : ℕ) (l : List A) → map f (drop n l) ≡ drop n (map f l)
  map_drop zero l = refl
  map_drop (suc n) [] = refl
  map_drop (suc n) (x ∷ l) = map_drop n l

module _ {A : Type 0} where
  pub drop_last_is : (x : A) (l : List A) → drop_last (x ∷ l) ≡ take (length l) (x ∷ l)
  drop_last_is x [] = refl
  drop_last_is x (y ∷ l) = ap (λ r. x ∷ r) (drop_last_is y l)

  -- a part of a front is a part of the whole
  pub part_of_front : (j k n : ℕ) (l : List A) → k + j ≤ n → n ≤ length l → take j (drop k (take n l)) ≡ take j (drop k l)
  part_of_front j k n l h g =
      let e : n ≡ k + (n - k) = omega arith in
      ap (λ (i : ℕ). take j (drop k (take i l))) e
      ∙ rw (take-add k (n - k) l, drop_at (take k l) (take (n - k) (drop k l)) k (length-take-le k l (omega arith)), take-take j (n - k) (drop k l) (omega arith))

  pub take_min : (n : ℕ) (l : List A) → take (min n (length l)) l ≡ take n l
  take_min zero l = simp unary_clauses refl
  take_min (suc n) [] = simp unary_clauses refl
  take_min (suc n) (x ∷ l) = simp unary_clauses (ap (λ r. x ∷ r) (take_min n l))
