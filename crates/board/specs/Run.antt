-- Words for a run of the board of six rooftop units (change request 14): from its start in these manners, for any list of commands, the first one first.
use Rattle.std.specs.Prelude.{ℕ, Bool, List, Ok, Err}
use Rattle.past.specs.Whole.{Told, NotTaken, Taken}
use Rattle.rooftop.specs.declared.types.RooftopRow.{RooftopRow}
use Rattle.rooftop.specs.Step.{RooftopAnswer}
use Rattle.board.specs.Board.{Command, Event, after, events}
use Rattle.board.specs.Rooftops.{RooftopBoard, board_start, unit_answer, unit_next}

abbrev pub Commands : Type 0
Commands = List (Command RooftopRow)

abbrev pub Said : Type 0
Said = List (Event RooftopRow RooftopAnswer)

module _ (keeps_hour : List Bool) (cs : Commands) where
  -- the board after the commands, what it said to them, and what it says to those that follow
  abbrev pub board_after : RooftopBoard
  board_after = after unit_answer unit_next (board_start keeps_hour) cs

  abbrev pub board_said : Said
  board_said = events unit_answer unit_next (board_start keeps_hour) cs

  abbrev pub board_says : Commands → Said
  board_says ds = events unit_answer unit_next board_after ds

-- what an answer tells of freeze protection: the refusal, or the stage
abbrev pub stage_told : RooftopAnswer → Told ℕ
stage_told (Ok commands) = Taken commands.freeze.freeze_protection_stage
stage_told (Err refusal) = NotTaken refusal
