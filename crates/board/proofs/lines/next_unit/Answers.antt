-- `next_unit`: among the units from the first on, or else among those before it.
use mathlib.Core.Path.{◌∙◌}
use Rattle.board.specs.Lines.{lines_of}
use Rattle.board.proofs.Places.{found_from, found_before}
use Rattle.board.proofs.lines.next_unit.Goals as goal

pub returns-in-Some-clause-found : goal.returns-in-Some-clause-found
returns-in-Some-clause-found g c = found_from (lines_of c.args.counts.now c.args.rows.now) c.args.first c.in-Some.unit c.in-Some.ensures.found

pub returns-in-None-clause-found : goal.returns-in-None-clause-found
returns-in-None-clause-found g c =
    rw (c.min.ensures) at c.first_between-in-None.ensures.found ∙ found_before (lines_of c.args.counts.now c.args.rows.now) c.args.first c.in-None.ensures.found
