-- `woldgrater_board_tick`: from the lines of words, and the unit's own row.
use Rattle.std.proofs.Common.{rules}
use Rattle.rooftop_words.specs.RooftopCommands.{rooftop_commands_words, rooftop_commands_zero}
use Rattle.woldgrater.proofs.AnswerCalls.{answered_is}
use Rattle.woldgrater.proofs.BoardCalls.{none_served, one_served}
use Rattle.woldgrater.proofs.units.woldgrater_board_tick.Goals as goal

pub returns-in-None : goal.returns-in-None
returns-in-None c = none_served c.args.board.now _ _ _ c.default.ensures c.in-None.ensures.served

pub returns-in-Some : goal.returns-in-Some
returns-in-Some c =
    one_served c.args.board.now _ _ c.in-Some.unit c.in-Some.row _ _ _ c.rooftop_row_lent-step.result _ _ _ _ c.in-Some.ensures.served
    (search rules) (search rules) (search rules) c.from.ensures c.from-held.ensures c.rooftop_row_lent-step.ensures c.from-in-Some.ensures
    (answered_is rooftop_commands_words rooftop_commands_zero _ _ c.from-answered.ensures)
