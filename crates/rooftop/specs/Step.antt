-- A start, and a joined row: the commands and the next state of all three sequences, or the refusal and the old state of all three (change request 6).
use Rattle.std.specs.Prelude.{Bool, false, pos, Result}
use Rattle.refusals.specs.declared.Refusal.{Refusal}
use Rattle.refusals.specs.declared.step.Step.{Step}
use Rattle.refusals.specs.Refusals.{Verdict}
use Rattle.refusals.specs.Step.{stepped}
use Rattle.economizer_controller.specs.declared.types.EconomizerRow.{EconomizerRow}
use Rattle.economizer_controller.specs.declared.types.EconomizerState.{EconomizerState}
use Rattle.economizer_controller.specs.declared.types.EconomizerCommands.{EconomizerCommands}
use Rattle.economizer_controller.specs.Step.{economizer_fresh, economizer_signals, economizer_commands, economizer_next}
use Rattle.freeze_protection.specs.declared.types.FreezeRow.{FreezeRow}
use Rattle.freeze_protection.specs.declared.types.FreezeState.{FreezeState}
use Rattle.freeze_protection.specs.declared.types.FreezeCommands.{FreezeCommands}
use Rattle.freeze_protection.specs.Signals.{freeze_signals}
use Rattle.freeze_protection.specs.Commands.{freeze_commands}
use Rattle.freeze_protection.specs.Step.{freeze_start, freeze_next}
use Rattle.moving_average.specs.State.{moving_average_is_full}
use Rattle.relief_fan_group.specs.declared.types.ReliefRow.{ReliefRow}
use Rattle.relief_fan_group.specs.declared.types.ReliefState.{ReliefState}
use Rattle.relief_fan_group.specs.declared.types.ReliefCommands.{ReliefCommands}
use Rattle.relief_fan_group.specs.Commands.{relief_commands}
use Rattle.relief_fan_group.specs.Step.{relief_fresh, signals_at, relief_after}
use Rattle.rooftop.specs.declared.types.RooftopRow.{RooftopRow}
use Rattle.rooftop.specs.declared.types.RooftopState.{RooftopState}
use Rattle.rooftop.specs.declared.types.RooftopCommands.{RooftopCommands}
use Rattle.rooftop.specs.Wiring.{economizer_row_of, freeze_row_of, relief_row_of}
use Rattle.rooftop.specs.Verdict.{falls, rooftop_verdict}

-- all three sequences as they start, freeze protection in either manner; before the first row the stage is 0
unfoldable pub rooftop_start : Bool → RooftopState
rooftop_start keeps_hour = record { stage = pos 0; economizer = economizer_fresh; freeze = freeze_start keeps_hour; relief = relief_fresh }

-- the start with freeze protection as the published Rust starts it
unfoldable pub rooftop_fresh : RooftopState
rooftop_fresh = rooftop_start false

-- ---- what an accepted row makes of each sequence: its commands, and its next state
unfoldable pub economizer_accepted : EconomizerState → EconomizerRow → EconomizerCommands × EconomizerState
economizer_accepted state row = let signals = economizer_signals state row in (economizer_commands row signals, economizer_next state row signals)

unfoldable pub freeze_accepted : FreezeState → FreezeRow → FreezeCommands × FreezeState
freeze_accepted state row = let signals = freeze_signals state row in (freeze_commands row signals, freeze_next state row signals)

abbrev pub relief_accepted : ReliefState → ReliefRow → ReliefCommands × ReliefState
relief_accepted state row = (relief_commands row (signals_at state row), relief_after state row)

-- ---- the joined row, and what each sequence is handed and gives: the economizer with the stage of the last accepted row; freeze protection with what the economizer hands on; the relief fan group with
-- freeze protection's fan status
module _ (state : RooftopState) (row : RooftopRow) where
  abbrev pub economizer_handed : EconomizerRow
  economizer_handed = economizer_row_of row state.stage

  abbrev pub economizer_at : EconomizerCommands × EconomizerState
  economizer_at = economizer_accepted state.economizer economizer_handed

  abbrev pub freeze_handed : FreezeRow
  freeze_handed = freeze_row_of row economizer_at.0

  abbrev pub freeze_at : FreezeCommands × FreezeState
  freeze_at = freeze_accepted state.freeze freeze_handed

  abbrev pub relief_handed : ReliefRow
  relief_handed = relief_row_of row freeze_at.0.supply_fan_status

  abbrev pub relief_at : ReliefCommands × ReliefState
  relief_at = relief_accepted state.relief relief_handed

  -- the commands, and the next state, which keeps the stage for the economizer of the next row
  abbrev pub rooftop_commands : RooftopCommands
  rooftop_commands = record { economizer = economizer_at.0; freeze = freeze_at.0; relief = relief_at.0 }

  abbrev pub rooftop_next : RooftopState
  rooftop_next = record { stage = pos freeze_at.0.freeze_protection_stage; economizer = economizer_at.1; freeze = freeze_at.1; relief = relief_at.1 }

  -- the verdict, from the three last accepted times, the window, and what the economizer would hand on
  abbrev pub verdict_at : Verdict
  verdict_at =
      rooftop_verdict (falls state.economizer.last state.freeze.last state.relief.blocks.last row.time) row (moving_average_is_full state.relief.window row.time) economizer_at.0

-- a row's answer: the commands of an accepted row, or the refusal; and beside it the state for the next row
abbrev pub RooftopAnswer : Type 0
RooftopAnswer = Result RooftopCommands Refusal

abbrev pub RooftopStep : Type 0
RooftopStep = Step RooftopCommands RooftopState

-- a row that is accepted moves all three on; a refused one has the refusal, no command, and hands the old state back, of all three
unfoldable pub rooftop_row : RooftopState → RooftopRow → RooftopStep
rooftop_row state row = stepped (verdict_at state row) (rooftop_commands state row) (rooftop_next state row) state
