-- The fan constants as bytes, and the floats that they become: one fact over the whole table, then its entries by index. Assumes nothing.
use Prim.Native.Nat.{ℕ, zero, suc, ◌+◌, ◌<◌, ◌≤◌}
use native.Mathlib.Omega.{arith}
use mathlib.Core.Path.{◌≡◌, refl, ap, ◌∙◌}
use mathlib.Core.List.{List, [], ◌∷◌, map}
use lib.Dec.{eqb}
use lib.Ieee.{of_int, round, of_bits, div, nan}
use lib.ListN.{get_or, length}
use Rattle.reals.specs.Four.{real}
use Rattle.reals.specs.Switch.{bool_to_real}
use Rattle.relief_fans.specs.Table.{sta_vec, rel_fan_mat, on_supply}
use Rattle.relief_fans.proofs.AsCoded.{weights, supplies, as_real, entries}

-- the bytes, made floats, are the constants of the definitions, to the bit
pub table_is : map as_real weights ∷ map entries supplies ≡ sta_vec ∷ rel_fan_mat
unfolding of_int round of_bits div bool_to_real
table_is = refl

-- an element of a list, mapped, is that of the mapped list
at_map : {A B : Type 0} (f : A → B) (l : List A) (i : ℕ) (d : A) (e : B) → i < length l → f (get_or l i d) ≡ get_or (map f l) i e
at_map f [] i d e l = absurd (omega arith)
at_map f (x ∷ xs) zero d e l = refl
at_map f (x ∷ xs) (suc i) d e l = at_map f xs i d e (omega arith)

-- the weight of relief fan i
pub weight_is : (i : ℕ) → i < 4 → as_real (get_or weights i 0) ≡ real sta_vec i
weight_is i l = at_map as_real weights i 0 nan l ∙ ap (λ t. real (get_or t 0 []) i) table_is

-- the entries of relief fan i, and whether it is on each supply fan
module _ (i : ℕ) (l : i < 4) where
  entries_are : entries (get_or supplies i 0) ≡ get_or rel_fan_mat i []
  entries_are = at_map entries supplies i 0 [] l ∙ ap (λ t. get_or t (suc i) []) table_is

  pub first_is : bool_to_real (eqb (get_or supplies i 0) 0) ≡ on_supply i 0
  first_is = ap (λ row. real row 0) entries_are

  pub second_is : bool_to_real (eqb (get_or supplies i 0) 1) ≡ on_supply i 1
  second_is = ap (λ row. real row 1) entries_are

-- what the relief fans from i on weigh together
abbrev pub to_come : ℕ → ℕ
to_come i = weigh weights i
  where
    weigh : List ℕ → ℕ → ℕ
    weigh [] i = 0
    weigh (w ∷ ws) zero = w + weigh ws zero
    weigh (w ∷ ws) (suc i) = weigh ws i

-- it is what fan i weighs and what those after it weigh; it is 0 after the last fan, and there alone
pub record Place (i : ℕ) : Type 0 where
  pub off : to_come i ≡ get_or weights i 0 + to_come (i + 1)
  pub fan : 0 < to_come i → i < 4
  pub last : to_come i ≡ 0 → 4 ≤ i

pub place : (i : ℕ) → i ≤ 4 → Place i
place zero l = record { off = refl; fan = λ h. omega arith; last = λ h. omega arith }
place (suc zero) l = record { off = refl; fan = λ h. omega arith; last = λ h. omega arith }
place (suc (suc zero)) l = record { off = refl; fan = λ h. omega arith; last = λ h. omega arith }
place (suc (suc (suc zero))) l = record { off = refl; fan = λ h. omega arith; last = λ h. omega arith }
place (suc (suc (suc (suc zero)))) l = record { off = refl; fan = λ h. omega arith; last = λ h. omega arith }
place (suc (suc (suc (suc (suc i))))) l = absurd (omega arith)
