-- `board_tick`: from the lines, and the unit's own row.
use Rattle.std.proofs.Common.{rules}
use Rattle.board.proofs.Steps.{ticked_idle, ticked_served}
use Rattle.board.proofs.step.board_tick.Goals as goal

pub returns-in-None : goal.returns-in-None
returns-in-None c = ticked_idle c.args.board.now c.serve_row.new.counts c.serve_row.new.rows c.in-None.ensures.served

pub returns-in-Some : goal.returns-in-Some
returns-in-Some c =
    ticked_served c.args.board.now c.serve_row.new.counts c.serve_row.new.rows c.in-Some.unit c.in-Some.row (record { answer = c.rooftop_row_mut-answer.result; state = c.rooftop_row_mut-answer.new.state })
    _ c.in-Some.ensures.served (search rules) c.rooftop_row_mut-answer.ensures
