-- A row written as its line.
use Rattle.std.specs.Prelude.{ℕ, ◌+◌, ◌≡◌, List, [], ◌∷◌, ◌++◌, Bool, not, cond, ltb, length, Result, Ok, Err}
use Rattle.refusals.specs.declared.Refusal.{Refusal}
use Rattle.refusals.specs.declared.Refusal.TheVariants.{NotFinite, NoRoom}
use Rattle.columns.specs.Column.{over}
use Rattle.columns.specs.Forms.{line_of}
use Rattle.columns.specs.Line.{words_line}
use Rattle.line_stream.specs.Lines.{Answer}
use Rattle.line_stream.specs.RowKind.{RowKind, Row, row_line, read_answered}

-- what writing gives: the place after the line or the refusal, and the whole buffer
pub record Written : Type 0 where
  pub answer : Result ℕ Refusal
  pub buffer : List ℕ

-- a refusal leaves every byte as it was
abbrev pub untouched : Refusal → List ℕ → Written
untouched refusal buffer = record { answer = Err refusal; buffer = buffer }

-- a text put into a buffer from a place on, every other byte kept. Before anything is written it is refused: with 1 if a number is not finite, or else with 10
-- if what is left of the buffer from there on is shorter than the text
unfoldable pub write_text : Bool → List ℕ → List ℕ → ℕ → Written
write_text finite text buffer at =
    let end = at + length text in
    cond (not finite) (untouched NotFinite buffer)
    (cond (ltb (length buffer) end) (untouched NoRoom buffer) (record { answer = Ok end; buffer = over buffer at text }))

module _ {S R C : Type 0} (kind : RowKind S R C) where
  -- the line of a row, with its newline
  abbrev pub row_text : R → List ℕ
  row_text row = words_line kind.row_forms (kind.row_words row)

  -- the line of a row is read as that row
  abbrev pub ReadsBack : R → Type 0
  ReadsBack row = row_line kind (line_of kind.row_forms (kind.row_words row)) ≡ Row row

  -- a row written: nothing but its numbers and the room is looked at, so a time that the sequence would refuse is written too
  abbrev pub write_row : R → List ℕ → ℕ → Written
  write_row row buffer at = write_text (kind.finite row) (row_text row) buffer at

  -- the lines of rows one after another, as in a file after its first line
  abbrev pub rows_text : List R → List ℕ
  rows_text [] = []
  rows_text (row ∷ rows) = row_text row ++ rows_text rows

  -- rows answered in turn: what each gives, from the state that the one before left
  abbrev pub rows_answered : S → List R → Answer S
  rows_answered state [] = record { next = state; said = [] }
  rows_answered state (row ∷ rows) =
      let a = read_answered kind state (Row row) in
      let b = rows_answered a.next rows in
      record { next = b.next; said = a.said ++ b.said }

  -- the line of each row is read as that row
  abbrev pub AllReadBack : List R → Type 0
  AllReadBack [] = Unit {0}
  AllReadBack (row ∷ rows) = ReadsBack row × AllReadBack rows

-- what a writer leaves: that answer, and that buffer
pub record LeftBy (written : Written) (answer : Result ℕ Refusal) (buffer : List ℕ) : Type 0 where
  pub said : answer ≡ written.answer
  pub bytes : buffer ≡ written.buffer
