-- What a caller gets that has the line of a row written.
use Rattle.std.specs.Prelude.{ℕ, ◌≡◌, List, Result, Ok, Err}
use Rattle.refusals.specs.Refusals.{refusal_number}
use Rattle.refusals.specs.declared.Refusal.{Refusal}
use Rattle.row_writer.specs.Writing.{Written}
use Rattle.woldgrater_service.specs.declared.line.LineGiven.{LineGiven}

-- the line's bytes with its newline, or the number of the refusal
unfoldable pub line_given : Result ℕ Refusal → LineGiven
line_given (Ok end) = record { status = 0; len = end }
line_given (Err refusal) = record { status = refusal_number refusal; len = 0 }

-- what the call leaves: that answer, and every byte of the output
pub record LineLeft (written : Written) (given : LineGiven) (after : List ℕ) : Type 0 where
  pub said : given ≡ line_given written.answer
  pub bytes : after ≡ written.buffer
