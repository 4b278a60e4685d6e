-- `write_columns`: with what is written of the words that are left, the whole line.
use Rattle.std.specs.Iterator.Adapters.{zip_first, zip_second}
use Rattle.std.specs.Slice.Iter.{iter_rest}
use Rattle.columns.specs.Forms.{line_of}
use Rattle.columns.proofs.Loops.{WritingOn}
use Rattle.columns.proofs.forms.write_columns.Given as goal

abbrev pub invariant-loop-form : goal.invariant-loop-form
invariant-loop-form g l =
    WritingOn l.initial.out l.at (line_of l.forms l.words) l.out l.to (iter_rest (zip_first l.form-iterator)) (iter_rest (zip_second l.form-iterator))
