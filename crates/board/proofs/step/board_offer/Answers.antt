-- `board_offer`: from the lines.
use Rattle.board.proofs.Steps.{offered}
use Rattle.board.proofs.step.board_offer.Goals as goal

pub returns : goal.returns
returns c = offered c.args.board.now c.offer_row.new.counts c.offer_row.new.rows c.offer_row.result c.args.unit c.args.row c.offer_row.ensures
