-- The board of six rooftop units (change request 14): the board over any units, with the joined row as unit.
use Rattle.std.specs.Prelude.{Bool, false, List, [], get_or, Option}
use Rattle.rooftop.specs.declared.types.RooftopRow.{RooftopRow}
use Rattle.rooftop.specs.declared.types.RooftopState.{RooftopState}
use Rattle.rooftop.specs.Step.{rooftop_start, rooftop_fresh, RooftopAnswer, rooftop_row}
use Rattle.board.specs.declared.types.Board as code
use Rattle.board.specs.declared.types.Served.{Served}
use Rattle.board.specs.Lines.{lines_of}
use Rattle.board.specs.Board.{Board, tick}

-- a board of rooftop units
abbrev pub RooftopBoard : Type 0
RooftopBoard = Board RooftopRow RooftopState

-- the board that the code's record stands for. Of the six units none is above 5; a fresh one stands there, and is never read
unfoldable pub board_of : code.Board → RooftopBoard
board_of b = record { lines = lines_of b.counts b.rows; units = λ u. get_or b.units u rooftop_fresh; turn = b.turn }

-- a board's start: no row waits, and each unit has started in its manner
unfoldable pub board_start : List Bool → RooftopBoard
board_start keeps_hour = record { lines = λ u. []; units = λ u. rooftop_start (get_or keeps_hour u false); turn = 0 }

-- the answer of a rooftop unit, and its next state
abbrev pub unit_answer : RooftopState → RooftopRow → RooftopAnswer
unit_answer state row = (rooftop_row state row).answer

abbrev pub unit_next : RooftopState → RooftopRow → RooftopState
unit_next state row = (rooftop_row state row).state

-- a tick
unfoldable pub board_tick : RooftopBoard → Option (Served RooftopAnswer) × RooftopBoard
board_tick = tick unit_answer unit_next
