-- `woldgrater_board_start`: no row is counted, and each unit has started.
use Rattle.woldgrater.proofs.BoardCalls.{started}
use Rattle.woldgrater.proofs.units.woldgrater_board_start.Goals as goal

pub returns : goal.returns
returns c = started _ _ _ c.args.keeps_hour.now _ c.start_units.ensures
