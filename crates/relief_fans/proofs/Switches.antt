-- One switch of two arrays of four is four switches of their elements. Assumes nothing.
use mathlib.Core.Path.{◌≡◌, refl}
use mathlib.Core.Bool.{Bool, true, false}
use mathlib.Core.List.{List, [], ◌∷◌}
use native.Mathlib.Omega.{arith}
use lib.ListN.{length, get_or}
use lib.Ieee.{Float, nan}
use Rattle.reals.specs.Four.{each4}
use Rattle.reals.specs.Switch.{switch}
use Rattle.relief_fans.specs.Flags.{switch_each}
use Rattle.relief_fans.specs.Orders.{swi3}

module _ {A : Type 0} (d : A) where
  by_index : (a : List A) → length a ≡ 4 → a ≡ each4 (λ i. get_or a i d)
  by_index (a ∷ b ∷ c ∷ e ∷ []) l = refl
  by_index [] l = absurd (omega arith)
  by_index (a ∷ []) l = absurd (omega arith)
  by_index (a ∷ b ∷ []) l = absurd (omega arith)
  by_index (a ∷ b ∷ c ∷ []) l = absurd (omega arith)
  by_index (a ∷ b ∷ c ∷ e ∷ x ∷ xs) l = absurd (omega arith)

  switch_of_four : (u : Bool) (a b : List A) → length a ≡ 4 → length b ≡ 4 → switch u a b ≡ each4 (λ i. switch u (get_or a i d) (get_or b i d))
  unfolding switch
  switch_of_four true a b l m = by_index a l
  switch_of_four false a b l m = by_index b m

pub switch_is_each : (u : Bool) (a b : List Bool) → length a ≡ 4 → length b ≡ 4 → switch u a b ≡ switch_each u a b
unfolding switch_each
switch_is_each = switch_of_four false

pub switch_is_swi3 : (off : Bool) (pro1 swi : List Float) → length pro1 ≡ 4 → length swi ≡ 4 → switch off pro1 swi ≡ swi3 off pro1 swi
unfolding swi3
switch_is_swi3 = switch_of_four nan
