-- What a caller of the board holds and gets: the board that its words stand for, and the answers as it gets them.
use Rattle.std.specs.Prelude.{ℕ, List, Float, map, get_or, Ok, Err, Option, None, Some}
use Rattle.refusals.specs.Refusals.{Verdict, refusal_number}
use Rattle.rooftop.specs.declared.types.RooftopState.{RooftopState}
use Rattle.rooftop.specs.Step.{rooftop_fresh, RooftopAnswer}
use Rattle.board.specs.declared.types.Served.{Served}
use Rattle.board.specs.Lines.{lines_of}
use Rattle.board.specs.Rooftops.{RooftopBoard}
use Rattle.rooftop_words.specs.RooftopRow.{rooftop_row_of}
use Rattle.rooftop_words.specs.RooftopCommands.{rooftop_commands_zero}
use Rattle.rooftop_words.specs.declared.rooftop_state.RooftopWords.{RooftopWords}
use Rattle.woldgrater.specs.declared.units.BoardWords.{BoardWords}
use Rattle.woldgrater.specs.declared.units.BoardServed.{BoardServed}
use Rattle.woldgrater.specs.Memory.{memory}
use Rattle.woldgrater.specs.Rooftop.{RooftopMemory, rooftop_memory, rooftop_in, rooftop_answered}

-- what the words hold of a unit. Of the six none is above 5; a fresh one stands there, and is never read
abbrev pub fresh_memory : RooftopMemory
fresh_memory = rooftop_memory rooftop_fresh

abbrev pub unit_memory : List RooftopWords → List (List Float) → List (List Float) → ℕ → RooftopMemory
unit_memory units times integrals u = memory (get_or units u fresh_memory.words) (get_or times u fresh_memory.times) (get_or integrals u fresh_memory.integrals)

-- the units, and the board, that words stand for
abbrev pub units_in : List RooftopWords → List (List Float) → List (List Float) → ℕ → RooftopState
units_in units times integrals u = rooftop_in (unit_memory units times integrals u)

unfoldable pub board_in : BoardWords → RooftopBoard
board_in w = record { lines = λ u. map rooftop_row_of (lines_of w.counts w.rows u); units = units_in w.units w.times w.integrals; turn = w.turn }

-- ---- what a call gives, and the board that it leaves
-- of an offer the status: 0, or the number of what the row is turned away with
unfoldable pub offer_status : Verdict → ℕ
offer_status (Ok tt) = 0
offer_status (Err refusal) = refusal_number refusal

abbrev pub board_offered : Verdict × RooftopBoard → ℕ × RooftopBoard
board_offered offered = (offer_status offered.0, offered.1)

-- of a tick the unit that was served, with the status and the commands of its answer; all 0 where none was
unfoldable pub served_words : Option (Served RooftopAnswer) → BoardServed
served_words None = record { served = 0; unit = 0; status = 0; commands = rooftop_commands_zero }
served_words (Some s) = let a = rooftop_answered s.answer in record { served = 1; unit = s.unit; status = a.status; commands = a.commands }

abbrev pub board_ticked : Option (Served RooftopAnswer) × RooftopBoard → BoardServed × RooftopBoard
board_ticked ticked = (served_words ticked.0, ticked.1)
