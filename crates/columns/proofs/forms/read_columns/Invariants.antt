-- `read_columns`: what is read of the first i columns.
use Rattle.columns.proofs.Loops.{ReadTo}
use Rattle.columns.proofs.forms.read_columns.Given as goal

abbrev pub invariant-loop-i : goal.invariant-loop-i
invariant-loop-i g l = ReadTo l.forms l.line l.words l.i
