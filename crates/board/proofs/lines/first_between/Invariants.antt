-- `first_between`: no unit looked at so far has a row.
use Rattle.std.proofs.Common.{◌≡◌, find, drop, take}
use Rattle.board.specs.Lines.{unit_numbers, lines_of, waits}
use Rattle.board.proofs.lines.first_between.Given as goal

abbrev pub invariant-loop-unit : goal.invariant-loop-unit
invariant-loop-unit g l = find (waits (lines_of l.counts l.rows)) (drop l.unit (take l.to unit_numbers)) ≡ find (waits (lines_of l.counts l.rows)) (drop l.from (take l.to unit_numbers))
