-- Three runs side by side: over the accepted joined rows each sequence runs by itself, on the rows that the joined row hands it (change request 6).
use Rattle.std.specs.Prelude.{Bool, List, [], ◌∷◌, pos}
use Rattle.past.specs.Whole.{state_after}
use Rattle.economizer_controller.specs.declared.types.EconomizerRow.{EconomizerRow}
use Rattle.economizer_controller.specs.declared.types.EconomizerState.{EconomizerState}
use Rattle.economizer_controller.specs.Step.{economizer_fresh}
use Rattle.economizer_controller.specs.Told.{economizer_returned}
use Rattle.freeze_protection.specs.declared.types.FreezeRow.{FreezeRow}
use Rattle.freeze_protection.specs.declared.types.FreezeState.{FreezeState}
use Rattle.freeze_protection.specs.Step.{freeze_start}
use Rattle.freeze_protection.specs.Reading.{stage_from}
use Rattle.freeze_protection.specs.Told.{freeze_returned}
use Rattle.relief_fan_group.specs.declared.types.ReliefRow.{ReliefRow}
use Rattle.relief_fan_group.specs.declared.types.ReliefState.{ReliefState}
use Rattle.relief_fan_group.specs.Step.{relief_fresh}
use Rattle.relief_fan_group.specs.Told.{relief_returned}
use Rattle.rooftop.specs.declared.types.RooftopState.{RooftopState}
use Rattle.rooftop.specs.Step.{economizer_handed, freeze_handed, relief_handed}
use Rattle.rooftop.specs.Reading.{Past}

-- the rows that each sequence has been handed, the newest first
pub record Wired : Type 0 where
  pub economizer : List EconomizerRow
  pub freeze : List FreezeRow
  pub relief : List ReliefRow

-- ---- each sequence by itself: the state that its own row function leaves after these rows, refused ones too, from its start
abbrev pub economizer_alone : List EconomizerRow → EconomizerState
economizer_alone l = state_after economizer_returned economizer_fresh l

abbrev pub relief_alone : List ReliefRow → ReliefState
relief_alone l = state_after relief_returned relief_fresh l

module _ (keeps_hour : Bool) where
  abbrev pub freeze_alone : List FreezeRow → FreezeState
  freeze_alone l = state_after freeze_returned (freeze_start keeps_hour) l

  -- the three states beside each other, and the freeze stage that is read off freeze protection's rows
  abbrev pub state_alone : Wired → RooftopState
  state_alone w = record {
    stage = pos (stage_from keeps_hour w.freeze);
    economizer = economizer_alone w.economizer;
    freeze = freeze_alone w.freeze;
    relief = relief_alone w.relief;
  }

  -- the rows that each has been handed over a past: at each joined row what the wires make of the three so far
  unfoldable pub wired : Past → Wired
  wired [] = record { economizer = []; freeze = []; relief = [] }
  wired (x ∷ h) =
      let w = wired h in
      let s = state_alone w in
      record { economizer = economizer_handed s x ∷ w.economizer; freeze = freeze_handed s x ∷ w.freeze; relief = relief_handed s x ∷ w.relief }
