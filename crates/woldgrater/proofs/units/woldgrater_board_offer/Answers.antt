-- `woldgrater_board_offer`: from the lines of words.
use Rattle.std.proofs.Common.{Ok, Err}
use Rattle.woldgrater.specs.Units.{offer_status}
use Rattle.woldgrater.proofs.BoardCalls.{offered}
use Rattle.woldgrater.proofs.units.woldgrater_board_offer.Goals as goal

pub returns-in-Ok : goal.returns-in-Ok
unfolding offer_status
returns-in-Ok c = offered c.args.board.now _ _ (Ok tt) _ _ c.in-Ok.ensures

pub returns-in-Err : goal.returns-in-Err
unfolding offer_status
returns-in-Err c = rw c.number.ensures (offered c.args.board.now _ _ (Err c.in-Err.refusal) _ _ c.in-Err.ensures)
