-- A kind of rows as a table (docs/ROW_FILES.md): the forms of its columns in and out, the words of a row made into its record and back, commands made into
-- words, and what the sequence says of a row. Each line of rows of a kind is answered by a line: the commands of an accepted row, or the number of a refusal.
use Rattle.std.specs.Prelude.{ℕ, ◌+◌, ◌*◌, ◌≤◌, ◌≡◌, List, [], ◌∷◌, Bool, cond, length, Result, Ok, Err}
use Rattle.columns.specs.declared.forms.Form.{Form}
use Rattle.columns.specs.declared.forms.Form.TheVariants.{Unsigned}
use Rattle.columns.specs.Forms.{well_formed, words_of}
use Rattle.columns.specs.Line.{status_line, words_line}
use Rattle.refusals.specs.declared.Refusal.{Refusal}
use Rattle.refusals.specs.Refusals.{refusal_number}
use Rattle.line_stream.specs.Lines.{Answer}

-- a kind whose sequence has states S, rows R and commands C
pub record RowKind (S R C : Type 0) : Type 0 where
  -- the forms of the columns of a row, the row of their words, and the words of a row
  pub row_forms : List Form
  pub row_of : List ℕ → R
  pub row_words : R → List ℕ
  -- every number of a row is finite
  pub finite : R → Bool
  -- the state after a row, and the answer to it
  pub next : S → R → S
  pub answer : S → R → Result C Refusal
  -- the forms of the columns of an answer, and the words of an accepted row's: status 0, and the commands
  pub answer_forms : List Form
  pub command_words : C → List ℕ

-- a line without its newline: a row, or badly formed
pub data RowLine (R : Type 0) : Type 0 where
  Row : R → RowLine R
  Malformed : RowLine R

module _ {S R C : Type 0} (kind : RowKind S R C) where
  -- the words of an answer: those of an accepted row's, or the number of a refusal alone
  abbrev pub answer_words : Result C Refusal → List ℕ
  answer_words (Ok commands) = kind.command_words commands
  answer_words (Err refusal) = refusal_number refusal ∷ []

  -- the row of a line
  unfoldable pub row_line : List ℕ → RowLine R
  row_line line = cond (well_formed kind.row_forms line) (Row (kind.row_of (words_of kind.row_forms line))) Malformed

  -- a line that is read answered: the row's answer and the next state; 5, and the state as it was, where the line is badly formed
  unfoldable pub read_answered : S → RowLine R → Answer S
  read_answered state Malformed = record { next = state; said = status_line 5 }
  read_answered state (Row row) =
      record { next = kind.next state row; said = words_line kind.answer_forms (answer_words (kind.answer state row)) }

  unfoldable pub line_answered : S → List ℕ → Answer S
  line_answered state line = read_answered state (row_line line)

  -- what a row leaves: the next state, and the answer
  pub record Stepped (state : S) (row : R) (next : S) (answer : Result C Refusal) : Type 0 where
    pub moved : next ≡ kind.next state row
    pub said : answer ≡ kind.answer state row

  -- what every kind owes: a row of at most 12 columns, and an answer of as many; a status first in its answers, and a form for each word of an accepted row's; 22
  -- bytes at most of an answer for each byte of a line with its newline
  pub record Sized : Type 0 where
    pub columns : length kind.row_forms ≤ 12
    pub answer_columns : length kind.answer_forms ≤ 12
    pub commands : List Form
    pub status : kind.answer_forms ≡ Unsigned ∷ commands
    pub words : (commands : C) → length (kind.command_words commands) ≤ length kind.answer_forms
    pub room : 21 * length kind.answer_forms + 1 ≤ 22 * (21 * length kind.row_forms + 1)
