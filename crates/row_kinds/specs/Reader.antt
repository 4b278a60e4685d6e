-- What the whole input gives (docs/ROW_FILES.md): the first line names the kind, or the reader prints 6 and stops; each
-- line after it is answered; bytes after the last newline are one refused line. For any sequences: what a first line starts, and their answers to a line.
use Rattle.std.specs.Prelude.{ℕ, List, [], ◌∷◌}
use Rattle.columns.specs.Line.{status_line}
use Rattle.line_stream.specs.Lines.{Answer, output, cut, written}

-- before the first line, in a sequence, or after a first line that names none
pub data Reader (Q : Type 0) : Type 0 where
  First : Reader Q
  At : Q → Reader Q
  Stopped : Reader Q

-- what a first line starts: a sequence from a fresh state, or none
pub data Start (Q : Type 0) : Type 0 where
  From : Q → Start Q
  Nothing : Start Q

-- bytes after the last newline are one refused line
abbrev pub last_line : List ℕ → List ℕ
last_line [] = []
last_line (b ∷ bytes) = status_line 5

-- an empty input, and one whose first line has no newline, are refused with 6
abbrev pub reader_ending : {Q : Type 0} → Reader Q → List ℕ → List ℕ
reader_ending First rest = status_line 6
reader_ending (At q) rest = last_line rest
reader_ending Stopped rest = []

-- what is kept of a line that has not ended: nothing once the reader has stopped
abbrev pub reader_kept : {Q : Type 0} → Reader Q → List ℕ → List ℕ
reader_kept First p = cut p
reader_kept (At q) p = cut p
reader_kept Stopped p = []

-- the first line answered: nothing is said where it starts a sequence
abbrev pub first_line : {Q : Type 0} → Start Q → Answer (Reader Q)
first_line (From q) = record { next = At q; said = [] }
first_line Nothing = record { next = Stopped; said = status_line 6 }

-- an answer, in a larger state
abbrev pub answer_as : {S Q : Type 0} → (S → Q) → Answer S → Answer Q
answer_as f a = record { next = f a.next; said = a.said }

module _ {Q : Type 0} (start : List ℕ → Start Q) (line : Q → List ℕ → Answer Q) where
  -- a line answered
  unfoldable pub reader_line : Reader Q → List ℕ → Answer (Reader Q)
  reader_line First l = first_line (start l)
  reader_line (At q) l = answer_as At (line q l)
  reader_line Stopped l = record { next = Stopped; said = [] }

  -- the output of a whole input
  unfoldable pub reader_output : List ℕ → List ℕ
  reader_output bytes = output reader_line reader_ending First bytes

  -- what a program writes that reads the input in chunks
  unfoldable pub reader_written : List (List ℕ) → List ℕ
  reader_written chunks = written reader_line reader_kept reader_ending First chunks
