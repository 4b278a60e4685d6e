-- What `relief_kind` owes as a kind of rows. Assumes nothing.
use Rattle.std.specs.Prelude.{refl}
use Rattle.std.proofs.Common.{arith}
use Rattle.line_stream.specs.RowKind.{Sized}
use Rattle.relief_lines.specs.Relief.{relief_command_words, relief_kind}

pub relief_sized : Sized relief_kind
unfolding relief_command_words
relief_sized = record { columns = omega arith; answer_columns = omega arith; commands = _; status = refl; words = λ commands. omega arith; room = omega arith }
