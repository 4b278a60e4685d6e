-- The loop of `gai`: after i turns the first i entries are those of the definition, the others are as they were, and what is left is what the other fans weigh.
-- Assumes nothing.
use Prim.Native.Nat.{ℕ, ◌+◌, ◌-◌, ◌<◌, ◌≤◌}
use native.Mathlib.Omega.{arith}
use mathlib.Core.Path.{◌≡◌, refl}
use mathlib.Core.List.{List}
use lib.Ieee.{Float, mul, binary64, nan}
use lib.ListN.{get_or, length, set}
use Rattle.reals.proofs.Four.{Fill, start, more, yet, over}
use Rattle.relief_fans.specs.Table.{gai, gai_at}
use Rattle.relief_fans.proofs.AsCoded.{weights, as_real}
use Rattle.relief_fans.proofs.Bytes.{weight_is, to_come, place}

pub record Weighed (ena : List Float) (left i : ℕ) (out : List Float) : Type 0 where
  pub fill : Fill (gai_at ena) ena i out
  pub rest : left ≡ to_come i

pub untouched : (ena : List Float) → Weighed ena (to_come 0) 0 ena
untouched ena = record { fill = start _ _; rest = refl }

-- while something is left there is a fan to come, and its weight can be taken off
module _ {ena out : List Float} {left i : ℕ} (w : Weighed ena left i out) where
  pub fan : (left ≡ 0 → ⊥) → i < 4
  fan h = let rest = w.rest in (place _ w.fill.most).fan (omega arith)

  pub most : (left ≡ 0 → ⊥) → get_or weights i 0 ≤ left
  most h =
      let l = fan h in
      let rest = w.rest in
      let off = (place _ w.fill.most).off in
      omega arith

  pub turned : (left ≡ 0 → ⊥) → Weighed ena (left - get_or weights i 0) (i + 1) (set out i (mul binary64 (get_or out i nan) (as_real (get_or weights i 0))))
  turned h =
      let l = fan h in
      let rest = w.rest in
      let off = (place _ w.fill.most).off in
      record { fill = more w.fill l (rw (yet nan w.fill, weight_is _ l) refl); rest = omega arith }

  pub worked : length ena ≡ 4 → left ≡ 0 → out ≡ gai ena
  unfolding gai
  worked l h = let rest = w.rest in over l w.fill ((place _ w.fill.most).last (omega arith))
