-- The next fan to start and the next to stop: a table of a row's own supply flags and proofs, written from what ReliefFanGroup.mo says of them (staVec, relFanMat).
-- Indices 0 to 3 are fans 1 to 4. proofs/NextFan.antt has the fact that the sequence works the same from its blocks.
use Rattle.std.specs.Prelude.{ℕ, zero, suc, Bool, not, ◌&&◌, ◌||◌, cond, List, [], ◌∷◌}
use Rattle.reals.specs.Four.{flag, each4}

-- a relief fan is enabled where its supply fan is on: supply 1 for fans 1 and 2, supply 2 for fans 3 and 4 (relFanMat)
abbrev pub enabled : List Bool → ℕ → Bool
enabled supply zero = flag supply 0
enabled supply (suc zero) = flag supply 0
enabled supply (suc (suc i)) = flag supply 1

-- some of the four fans
abbrev pub some_fan : List Bool → Bool
some_fan fans = flag fans 0 || flag fans 1 || flag fans 2 || flag fans 3

-- of the fans that w picks, the one with the lowest weight (staVec): fan 3 before 1, 1 before 2, 2 before 4. Where w picks none there is none
unfoldable pub first_in_order : (ℕ → Bool) → List Bool
first_in_order w = (w 0 && not (w 2)) ∷ (w 1 && not (w 2 || w 0)) ∷ w 2 ∷ (w 3 && not (w 2 || w 0 || w 1)) ∷ []

-- the next to start: of the enabled fans without proof the first. But with no proof at all and a supply fan off, all fans whose supply fan is off (swi3)
unfoldable pub next_to_start : (supply proof : List Bool) → List Bool
next_to_start supply proof =
    cond (some_fan proof || (flag supply 0 && flag supply 1)) (first_in_order (λ i. enabled supply i && not (flag proof i))) (each4 (λ i. not (enabled supply i)))

-- the next to stop: of the enabled fans with proof the first
unfoldable pub next_to_stop : (supply proof : List Bool) → List Bool
next_to_stop supply proof = first_in_order (λ i. enabled supply i && flag proof i)

-- the fans that a stage up has on: those that are proven, and the next to start
unfoldable pub fans_after_up : (supply proof : List Bool) → List Bool
fans_after_up supply proof = each4 (λ i. flag proof i || flag (next_to_start supply proof) i)

-- the fans that a stage down has on: those that are proven, but the next to stop
unfoldable pub fans_after_down : (supply proof : List Bool) → List Bool
fans_after_down supply proof = each4 (λ i. flag proof i && not (flag (next_to_stop supply proof) i))

-- and those that it has off
abbrev pub off_after_down : (supply proof : List Bool) → List Bool
off_after_down supply proof = each4 (λ i. not (flag (fans_after_down supply proof) i))
