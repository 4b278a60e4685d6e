-- `begin`: by what the first line names.
use Rattle.row_reader.proofs.Phases.{rows_begin, none_begins}
use Rattle.row_reader.proofs.feed.begin.Goals as goal

pub returns-in-Rows : goal.returns-in-Rows
returns-in-Rows c =
    rows_begin c.args.reader.now c.args.times.now c.args.integrals.now c.told-times c.told-integrals c.requires.first _ _ c.phase_after.ensures _ c.in-Rows.is _ c.start.ensures _

pub returns-in-First : goal.returns-in-First
returns-in-First c = none_begins _ _ _ c.told-times c.told-integrals c.requires.first _ _ c.phase_after.ensures c.in-First.is _ _ _ _ c.stop.ensures
