-- Acceptance read off the list alone, for rows that refusals 1, 2 and 3 judge.
use Rattle.std.specs.Prelude.{Bool, List, [], ◌∷◌, Float, Option, None, Some}
use Rattle.refusals.specs.Refusals.{Verdict}
use Rattle.refusals.specs.Refusals.{judge}

module _ {R : Type 0} (time : R → Float) where
  -- the last accepted time: that of the nearest accepted row before, if any
  abbrev pub last_time : List R → Option Float
  last_time [] = None
  last_time (x ∷ h) = Some (time x)

  -- the refusal, if any, that fits a row after these accepted rows; `all_finite` tests the row's numbers
  unfoldable pub verdict_after : (R → Bool) → List R → R → Verdict
  verdict_after all_finite h x = judge (all_finite x) (time x) (last_time h)
