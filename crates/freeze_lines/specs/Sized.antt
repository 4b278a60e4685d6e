-- What `freeze_kind` owes as a kind of rows. Assumes nothing.
use Rattle.std.specs.Prelude.{refl}
use Rattle.std.proofs.Common.{arith}
use Rattle.line_stream.specs.RowKind.{Sized}
use Rattle.freeze_lines.specs.Freeze.{freeze_command_words, freeze_kind}

pub freeze_sized : Sized freeze_kind
unfolding freeze_command_words
freeze_sized = record { columns = omega arith; answer_columns = omega arith; commands = _; status = refl; words = λ commands. omega arith; room = omega arith }
