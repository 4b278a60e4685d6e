-- `write_text`: the places before the last digit written are spaces still, and there is room in them for the digits that are left and the mark.
use Rattle.columns.proofs.Writing.{WrittenFrom}
use Rattle.columns.proofs.column.write_text.Given as goal

abbrev pub invariant-loop-k : goal.invariant-loop-k
invariant-loop-k g l = WrittenFrom l.before g.row.W l.fn.n l.out l.k l.rest
