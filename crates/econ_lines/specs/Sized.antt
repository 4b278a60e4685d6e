-- What `econ_kind` owes as a kind of rows. Assumes nothing.
use Rattle.std.specs.Prelude.{refl}
use Rattle.std.proofs.Common.{arith}
use Rattle.line_stream.specs.RowKind.{Sized}
use Rattle.econ_lines.specs.Econ.{econ_command_words, econ_kind}

pub econ_sized : Sized econ_kind
unfolding econ_command_words
econ_sized = record { columns = omega arith; answer_columns = omega arith; commands = _; status = refl; words = λ commands. omega arith; room = omega arith }
