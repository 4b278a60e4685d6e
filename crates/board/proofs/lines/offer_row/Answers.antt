-- `offer_row`: turned away for the unit, or for its line; or it joins.
use Rattle.std.proofs.Common.{rules}
use Rattle.board.specs.Lines.{lines_of}
use Rattle.board.proofs.Places.{no_unit, line_full, joins, joined}
use Rattle.board.proofs.lines.offer_row.Goals as goal

pub returns-then-unit-gt5 : goal.returns-then-unit-gt5
returns-then-unit-gt5 g c = no_unit (lines_of c.args.counts.now c.args.rows.now) c.args.unit c.args.row (search rules)

pub returns-then-place-eq4 : goal.returns-then-place-eq4
returns-then-place-eq4 g c = line_full (lines_of c.args.counts.now c.args.rows.now) c.args.unit c.args.row (search rules) (search rules)

pub returns : goal.returns
returns g c =
    rw (c.waiting-place.ensures.number, joined c.args.counts.now c.args.rows.now c.args.unit (search rules) c.args.row (search rules) (search rules) (search rules))
    (joins (lines_of c.args.counts.now c.args.rows.now) c.args.unit c.args.row (search rules) (search rules))
