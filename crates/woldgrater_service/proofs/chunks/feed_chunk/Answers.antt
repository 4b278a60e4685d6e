-- `feed_chunk`: the reader that the words stand for is fed, and the next one is made words.
use Rattle.woldgrater_service.proofs.Carrying.{fed_to}
use Rattle.woldgrater_service.proofs.chunks.feed_chunk.Goals as goal

pub returns : goal.returns
returns c = fed_to c.args.state _ c.from-reader.ensures _ _ _ _ _ _ _ _ _ _ _ _ c.from.ensures c.feed_lent-fed.ensures
