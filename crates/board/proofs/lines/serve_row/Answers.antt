-- `serve_row`: no row waits, or the first of the unit's line leaves it.
use Rattle.std.proofs.Common.{rules}
use mathlib.Core.Path.{sym}
use Rattle.board.specs.Lines.{lines_of}
use Rattle.board.proofs.Places.{serves_none, has_row, serves_first}
use Rattle.board.proofs.lines.serve_row.Goals as goal

pub overflow_sub-counts : goal.overflow_sub-counts
overflow_sub-counts g c = let w = has_row (lines_of c.args.counts.now c.args.rows.now) c.args.first c.in-Some.unit (sym c.in-Some.ensures.found) in search rules

pub returns-in-None-clause-served : goal.returns-in-None-clause-served
returns-in-None-clause-served g c = serves_none (lines_of c.args.counts.now c.args.rows.now) c.args.first (sym c.in-None.ensures.found)

pub returns-in-Some-clause-served : goal.returns-in-Some-clause-served
returns-in-Some-clause-served g c =
    rw (c.waiting-number.ensures.number)
    (serves_first c.args.counts.now c.args.rows.now c.in-Some.unit (search rules) c.args.first _ _ _ _ (sym c.in-Some.ensures.found) (search rules) (search rules))
