-- The reader of the three kinds: `Reader` with the state of each kind as one arm of a sum; and the reader that the code carries from chunk to chunk, with the
-- arrays of the relief window beside it.
use Rattle.std.specs.Prelude.{ℕ, ◌+◌, ◌*◌, ◌≤◌, ◌≡◌, List, Bool, true, false, Float, length, drop}
use Rattle.columns.specs.Column.{Wrote}
use Rattle.columns.specs.Line.{status_line}
use Rattle.line_stream.specs.Lines.{Answer, Fed, feed, cut, Answered, fed_from, LinesAs, FedAs}
use Rattle.freeze_protection.specs.declared.types.FreezeState.{FreezeState}
use Rattle.freeze_protection.specs.Step.{freeze_fresh}
use Rattle.economizer_controller.specs.declared.types.EconomizerState.{EconomizerState}
use Rattle.economizer_controller.specs.Step.{economizer_fresh}
use Rattle.relief_fan_group.specs.declared.types.ReliefState.{ReliefState}
use Rattle.relief_fan_group.specs.Step.{relief_fresh}
use Rattle.relief_fan_group.specs.Lent.{held_of, lent_state}
use Rattle.freeze_lines.specs.Freeze.{freeze_answered}
use Rattle.relief_lines.specs.Relief.{relief_answered}
use Rattle.econ_lines.specs.Econ.{econ_answered}
use Rattle.row_kinds.specs.declared.kind.Kind.{Kind}
use Rattle.row_kinds.specs.declared.kind.Kind.TheVariants as kind
use Rattle.row_kinds.specs.declared.kind.Phase.{Phase}
use Rattle.row_kinds.specs.declared.kind.Phase.TheVariants as phase
use Rattle.row_kinds.specs.declared.types.RowReader.{RowReader}
use Rattle.row_kinds.specs.Kind.{phase_after}
use Rattle.row_kinds.specs.Reader.{Reader, First, At, Stopped, Start, From, Nothing, answer_as, reader_ending, reader_kept, reader_line, reader_output, reader_written}

-- ---- a kind is an arm of each of these

-- a sequence, with its state
pub data Sequence : Type 0 where
  Freeze : FreezeState → Sequence
  Relief : ReliefState → Sequence
  Econ : EconomizerState → Sequence

-- the rows of a kind start from a fresh state
abbrev pub fresh_of : Kind → Sequence
fresh_of kind.Freeze = Freeze freeze_fresh
fresh_of kind.Relief = Relief relief_fresh
fresh_of kind.Econ = Econ economizer_fresh

-- a line is answered as its kind answers it
abbrev pub sequence_line : Sequence → List ℕ → Answer Sequence
sequence_line (Freeze s) line = answer_as Freeze (freeze_answered s line)
sequence_line (Relief s) line = answer_as Relief (relief_answered s line)
sequence_line (Econ s) line = answer_as Econ (econ_answered s line)

-- ---- the reader

abbrev pub Rows : Type 0
Rows = Reader Sequence

abbrev pub start_of : Phase → Start Sequence
start_of phase.First = Nothing
start_of (phase.Rows kind) = From (fresh_of kind)
start_of phase.Stopped = Nothing

abbrev pub rows_start : List ℕ → Start Sequence
rows_start line = start_of (phase_after line)

-- a line answered
abbrev pub rows_line : Rows → List ℕ → Answer Rows
rows_line = reader_line rows_start sequence_line

-- a chunk fed after the part of a line
abbrev pub rows_feed : Rows → List ℕ → List ℕ → Fed Rows
rows_feed = feed rows_line

-- the output of a whole input
abbrev pub rows_output : List ℕ → List ℕ
rows_output = reader_output rows_start sequence_line

-- what a program writes that reads the input in chunks
abbrev pub rows_written : List (List ℕ) → List ℕ
rows_written = reader_written rows_start sequence_line

-- ---- the reader that the code carries

unfoldable pub phase_first : Phase → Bool
phase_first phase.First = true
phase_first (phase.Rows kind) = false
phase_first phase.Stopped = false

unfoldable pub phase_stopped : Phase → Bool
phase_stopped phase.First = false
phase_stopped (phase.Rows kind) = false
phase_stopped phase.Stopped = true

-- with the arrays of the relief window
pub record Carried : Type 0 where
  pub reader : RowReader
  pub times : List Float
  pub integrals : List Float

abbrev pub carried : RowReader → List Float → List Float → Carried
carried reader times integrals = record { reader = reader; times = times; integrals = integrals }

-- the state of a kind in it
abbrev pub sequence_in : Kind → Carried → Sequence
sequence_in kind.Freeze c = Freeze c.reader.freeze
sequence_in kind.Relief c = Relief (lent_state c.reader.relief c.times c.integrals)
sequence_in kind.Econ c = Econ c.reader.econ

abbrev pub at_phase : Phase → Carried → Rows
at_phase phase.First c = First
at_phase (phase.Rows kind) c = At (sequence_in kind c)
at_phase phase.Stopped c = Stopped

-- the reader that it stands for
abbrev pub rows_in : Carried → Rows
rows_in c = at_phase c.reader.phase c

-- the same at another phase
abbrev pub with_phase : Phase → Carried → Carried
with_phase p c = record {
  reader = record { phase = p; freeze = c.reader.freeze; relief = c.reader.relief; econ = c.reader.econ };
  times = c.times;
  integrals = c.integrals;
}

-- the same in another state of a sequence: those of the other kinds stay
abbrev pub with_sequence : Sequence → Carried → Carried
with_sequence (Freeze s) c = record {
  reader = record { phase = phase.Rows kind.Freeze; freeze = s; relief = c.reader.relief; econ = c.reader.econ };
  times = c.times;
  integrals = c.integrals;
}
with_sequence (Relief s) c = record {
  reader = record { phase = phase.Rows kind.Relief; freeze = c.reader.freeze; relief = held_of s; econ = c.reader.econ };
  times = s.window.times;
  integrals = s.window.integrals;
}
with_sequence (Econ s) c = record {
  reader = record { phase = phase.Rows kind.Econ; freeze = c.reader.freeze; relief = c.reader.relief; econ = s };
  times = c.times;
  integrals = c.integrals;
}

abbrev pub with_rows : Rows → Carried → Carried
with_rows First c = with_phase phase.First c
with_rows (At q) c = with_sequence q c
with_rows Stopped c = with_phase phase.Stopped c

-- a reader at a phase, with the fresh state of each kind
unfoldable pub fresh_at : Phase → RowReader
fresh_at phase = record {
  phase = phase;
  freeze = freeze_fresh;
  relief = held_of relief_fresh;
  econ = economizer_fresh;
}

-- ---- contracts

-- the arrays of the relief window are whole
pub record Window (times integrals : List Float) : Type 0 where
  pub times_long : length times ≡ 512
  pub integrals_long : length integrals ≡ 512

-- what a chunk is fed with: at most 256 bytes kept of a line, and 22 bytes of output for each byte that may end a line
pub record Lent (chunk : List ℕ) (had : ℕ) (out : List ℕ) : Type 0 where
  pub had_fits : had ≤ 256
  pub room : 22 * (256 + length chunk) ≤ length out

-- what a first line is begun with
pub record Beginning (reader : RowReader) (out : List ℕ) : Type 0 where
  pub first : phase_first reader.phase ≡ true
  pub room : 22 ≤ length out

-- what the lines of a text after the first of the input are passed with; and those of a kind
pub record Passing (reader : RowReader) (text out : List ℕ) (at : ℕ) : Type 0 where
  pub named : phase_first reader.phase ≡ false
  pub room : at + 22 * length text ≤ length out

pub record PassingRows (kind : Kind) (reader : RowReader) (text out : List ℕ) (at : ℕ) : Type 0 where
  pub at_rows : reader.phase ≡ phase.Rows kind
  pub room : at + 22 * length text ≤ length out

-- what the line that ends the bytes kept of it is answered with
pub record Keeping (len : ℕ) (out : List ℕ) : Type 0 where
  pub len_fits : len ≤ 256
  pub room : 22 * (len + 1) ≤ length out

-- what a first line that names no kind leaves: the same states, and 6
pub record Ended (before : RowReader) (out : List ℕ) (next : RowReader) (after : List ℕ) (at : ℕ) : Type 0 where
  pub stopped : (times integrals : List Float) → carried next times integrals ≡ with_phase phase.Stopped (carried before times integrals)
  pub said : Wrote out 0 (status_line 6) 22 after at

-- what a line leaves: what is carried on, past the first line, and the answer at the start of the output
pub record LineAnswered (before : Carried) (line out : List ℕ) (next : Carried) (after : List ℕ) (at : ℕ) : Type 0 where
  pub named : phase_first next.reader.phase ≡ false
  pub window : Window next.times next.integrals
  pub moved : next ≡ with_rows (rows_line (rows_in before) line).next before
  pub answered : Answered (rows_line (rows_in before) line) out 0 (rows_in next) after at

-- what the lines of a text leave of a sequence by itself, the first of which ends at a given place: its state, the place of the bytes of which a part is kept, and
-- the answers
pub record LinesAnswered {S : Type 0} (line : S → List ℕ → Answer S) (before : S) (text : List ℕ) (first : ℕ) (out : List ℕ) (from : ℕ) (next : S) (rest : ℕ) (after : List ℕ) (at : ℕ) : Type 0 where
  pub within : rest ≤ length text
  pub fits : at ≤ from + 22 * rest
  pub lines : LinesAs (λ q p. cut p) (fed_from line text before 0 first) next (drop rest text) out from after at

-- what the lines of a text leave, the first of which ends at a given place: what is carried on, the place of the bytes of which a part is kept, and the answers
pub record LinesPassed (before : Carried) (text : List ℕ) (first : ℕ) (out : List ℕ) (from : ℕ) (next : Carried) (rest : ℕ) (after : List ℕ) (at : ℕ) : Type 0 where
  pub named : phase_first next.reader.phase ≡ false
  pub window : Window next.times next.integrals
  pub within : rest ≤ length text
  pub fits : at ≤ from + 22 * rest
  pub same_phase : next.reader.phase ≡ before.reader.phase
  pub moved : next ≡ with_rows (fed_from rows_line text (rows_in before) 0 first).next before
  pub lines : LinesAs reader_kept (fed_from rows_line text (rows_in before) 0 first) (rows_in next) (drop rest text) out from after at

-- what a chunk leaves after the bytes kept of a line: what is carried on, with the states of the other kinds as they were; the bytes kept now; and the answers at
-- the start of the output
pub record FedTo (before : Carried) (part chunk out : List ℕ) (next : Carried) (line : List ℕ) (kept : ℕ) (after : List ℕ) (sent : ℕ) : Type 0 where
  pub window : Window next.times next.integrals
  pub moved : next ≡ with_rows (rows_feed (rows_in before) part chunk).next before
  pub fed : FedAs reader_kept (rows_feed (rows_in before) part chunk) (rows_in next) line kept out after sent

-- what the end of the input leaves: the last answer at the start of the output, and its length
abbrev pub Finished : RowReader → List ℕ → List ℕ → List ℕ → ℕ → Type 0
Finished reader part out after said = (times integrals : List Float) → Wrote out 0 (reader_ending (rows_in (carried reader times integrals)) part) said after said
