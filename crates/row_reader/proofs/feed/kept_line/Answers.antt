-- `kept_line`: by whether it is the first line of the input.
use Rattle.row_reader.proofs.Phases.{kept_answered}
use Rattle.row_reader.proofs.feed.kept_line.Goals as goal

pub returns : goal.returns
returns c = kept_answered _ _ _ _ c.told-line c.requires.len_fits c.min-n.ensures _ _ _ _ _ c.pass.ensures
