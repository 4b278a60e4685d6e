-- Freeze rows from the start in which stage 2 keeps to its hour, with times in tenths of a second: one table, an entry a case.
-- proofs/Table.antt has the one fact that covers it.
use Rattle.std.specs.Prelude.{ℕ, ◌≡◌, Bool, true, false, List, [], ◌∷◌, map}
use Rattle.past.specs.Whole.{Told}
use Rattle.freeze_protection.specs.Step.{freeze_start}
use Rattle.cases.specs.Words.{taken}
use Rattle.cases.specs.Freeze.{Written, FreezeOthers, at, reset_at, stages_from, signalled_from, is_held}

module _ (others : ℕ → FreezeOthers) where
  -- the stage, or the refusal, at each row; and the hold of stage 2
  abbrev pub stages_kept : List Written → List (Told ℕ)
  stages_kept = stages_from others (freeze_start true) 10

  abbrev pub held_kept : List Written → List Bool
  held_kept = signalled_from others (freeze_start true) 10 is_held

-- `o` has, for each time, the fields that a case leaves open; they are any finite numbers
pub record KeptHourCases : Type 0 where
  -- F5 0 and 300: 276, 360 and 3900: 278: stage 1 at 3900, though the hold drops on that row
  pub f5 : (o : ℕ → FreezeOthers)
      → let rows = at 0 27600 ∷ at 3000 27600 ∷ at 3600 27800 ∷ at 39000 27800 ∷ [] in
      (stages_kept o rows ≡ taken (0 ∷ 2 ∷ 2 ∷ 1 ∷ []))
      × (held_kept o rows ≡ false ∷ true ∷ true ∷ false ∷ [])
  -- F6 0 and 300: 276, 360: 278, 3540 and 3900: 276: stage 1 at 3900, while the hold stands
  pub f6 : (o : ℕ → FreezeOthers) → stages_kept o (at 0 27600 ∷ at 3000 27600 ∷ at 3600 27800 ∷ at 35400 27600 ∷ at 39000 27600 ∷ []) ≡ taken (0 ∷ 2 ∷ 2 ∷ 2 ∷ 1 ∷ [])
  -- a recovery falls on the row that ends the hour: stage 0
  pub recovers : (o : ℕ → FreezeOthers) → stages_kept o (at 0 27600 ∷ at 3000 27600 ∷ at 36000 28100 ∷ at 39000 28100 ∷ []) ≡ taken (0 ∷ 2 ∷ 2 ∷ 0 ∷ [])
  -- a trip stands on the row that ends the hour, and after a reset stage 2 does not come back
  pub trips : (o : ℕ → FreezeOthers) → stages_kept o (at 0 27300 ∷ at 3000 27300 ∷ at 39000 27300 ∷ reset_at 39600 27300 ∷ []) ≡ taken (0 ∷ 3 ∷ 3 ∷ 1 ∷ [])
  -- the hold came on at 496.4, and its gaps added up drop it at 4096.4, where the difference is below 3600 by rounding: stage 2 there, and stage 1 on the next row
  pub early : (o : ℕ → FreezeOthers)
      → let rows = at 0 27600 ∷ at 4964 27600 ∷ at 4966 27800 ∷ at 40964 27800 ∷ at 40965 27800 ∷ [] in
      (stages_kept o rows ≡ taken (0 ∷ 2 ∷ 2 ∷ 2 ∷ 1 ∷ []))
      × (held_kept o rows ≡ false ∷ true ∷ true ∷ false ∷ false ∷ [])
  -- the same, and the hold comes on again at 4396.4, on the very row that would end the first hour: stage 2 there, and until 7996.4
  pub again : (o : ℕ → FreezeOthers)
      → let rows = at 0 27600 ∷ at 4964 27600 ∷ at 4966 27800 ∷ at 40964 27600 ∷ at 43964 27600 ∷ at 79964 27800 ∷ [] in
      (stages_kept o rows ≡ taken (0 ∷ 2 ∷ 2 ∷ 2 ∷ 2 ∷ 1 ∷ []))
      × (held_kept o rows ≡ false ∷ true ∷ true ∷ false ∷ true ∷ false ∷ [])
