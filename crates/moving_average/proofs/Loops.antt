-- The start, a turn and the end of each loop over the window's arrays, as laws of lists. Assumes nothing.
use Prim.Native.Nat.{ℕ, suc, ◌+◌, ◌-◌, ◌<◌, ◌≤◌}
use mathlib.Core.Logic.{◌⊎◌, inl, inr}
use mathlib.Core.Path.{◌≡◌, refl, sym, ap, ◌∙◌}
use mathlib.Core.Bool.{cond}
use mathlib.Core.List.{List, [], ◌∷◌, ◌++◌, zip_with, append_assoc}
use native.Mathlib.Nat.{zero-add}
use native.Mathlib.Numerals.{add-one}
use native.Mathlib.Omega.{arith}
use lib.ListN.{length, take, drop, get_or, set, length-append, length-drop, take-append-drop}
use lib.Seq.{length-take-le, set_at, drop-cons, slice, length-slice}
use lib.Ieee.{Float, nan, le}
use Rattle.std.proofs.lemmas.List.Sums.{prefix_len-le-length}
use Rattle.moving_average.specs.Window.{Point, point}
use Rattle.moving_average.specs.Integral.{on_line, integral_after, integral_at}
use Rattle.std.specs.List.{copy_within}
use Rattle.moving_average.specs.State.{written}
use Rattle.moving_average.specs.Lent.{leading}

-- ---- `put`: the j entries from k on come to the front, and x after them
pub moved_none : (a : List Float) (j : ℕ) → a ≡ copy_within a 0 (0 + j) 0
moved_none a j = let n : 0 + j - 0 ≡ j = omega arith in rw (n, zero-add) (sym (take-append-drop j a))

pub put_end : (a : List Float) (k j : ℕ) → k + j ≤ length a → (x : Float) → j < length a → set (copy_within a k (k + j) 0) j x ≡ written (take j (drop k a) ++ (x ∷ [])) a
unfolding written
put_end a k j h x l =
    let n : k + j - k ≡ j = omega arith in
    let front : length (take j (drop k a)) ≡ j = length-take-le j (drop k a) (omega (arith, length-drop k a)) in
    let e : length (take j (drop k a) ++ (x ∷ [])) ≡ suc j = length-append (take j (drop k a)) (x ∷ []) ∙ rw (front, add-one) in
    rw (n, zero-add, drop-cons a j nan l, set_at (take j (drop k a)) (get_or a j nan) (drop (suc j) a) x j front, e, append_assoc)

-- ---- `old_points`: no more points go than there are
pub gone_le : (c : Float) (ts : List Float) (n : ℕ) → n ≤ length ts → leading c (slice 1 n ts) ≤ n
unfolding leading
gone_le c ts n h = omega (arith, prefix_len-le-length (λ t. le t c) (slice 1 n ts), length-slice 1 n ts h)

-- ---- `mu_at`: its start, a turn and its end, by the times and integrals that are still to come
module _ (t : Float) (now : Point) where
  pub search_none : (ts ms : List Float) → (ts ≡ []) ⊎ (ms ≡ []) → integral_at t (zip_with point ts ms) now ≡ now.integral
  unfolding integral_at zip_with
  search_none [] ms e = refl
  search_none (x ∷ ts) [] e = refl
  search_none (x ∷ ts) (y ∷ ms) (inl e) = absurd (omega (arith, ap length e))
  search_none (x ∷ ts) (y ∷ ms) (inr e) = absurd (omega (arith, ap length e))

  pub search_start : (ts ms : List Float) (x y : Float) (us vs : List Float) → ts ≡ x ∷ us → ms ≡ y ∷ vs → integral_at t (zip_with point ts ms) now
      ≡ cond (le t x) y (integral_after t (point x y) (zip_with point us vs ++ (now ∷ [])))
  unfolding integral_at zip_with
  search_start ts ms x y us vs e f = rw (e, f)

  module _ (p : Point) where
    pub search_turn : (ts ms : List Float) (x y : Float) (us vs : List Float) → ts ≡ x ∷ us → ms ≡ y ∷ vs → integral_after t p (zip_with point ts ms ++ (now ∷ []))
        ≡ cond (le t x) (on_line t p (point x y)) (integral_after t (point x y) (zip_with point us vs ++ (now ∷ [])))
    unfolding integral_after zip_with
    search_turn ts ms x y us vs e f = rw (e, f)

    pub search_end : (ts ms : List Float) → (ts ≡ []) ⊎ (ms ≡ []) → integral_after t p (zip_with point ts ms ++ (now ∷ [])) ≡ cond (le t now.time) (on_line t p now) now.integral
    unfolding integral_after zip_with
    search_end [] ms e = refl
    search_end (x ∷ ts) [] e = refl
    search_end (x ∷ ts) (y ∷ ms) (inl e) = absurd (omega (arith, ap length e))
    search_end (x ∷ ts) (y ∷ ms) (inr e) = absurd (omega (arith, ap length e))
