-- `board_start`: no row is counted.
use Rattle.board.proofs.Steps.{started}
use Rattle.board.proofs.step.board_start.Goals as goal

pub returns : goal.returns
returns c = rw (c.units_start-units.ensures) (started c.args.keeps_hour _)
