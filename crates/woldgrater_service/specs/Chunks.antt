-- What a caller gets that feeds a row file (docs/ROW_FILES.md) chunk by chunk: the answers to its lines, however it is cut.
use Rattle.std.specs.Prelude.{ℕ, ◌≤◌, ◌<◌, ◌≡◌, Bool, List, [], ◌∷◌, map, length, take, Float}
use Rattle.columns.specs.Column.{Wrote}
use Rattle.line_stream.specs.Lines.{whole}
use Rattle.row_kinds.specs.declared.kind.Phase.TheVariants as phase
use Rattle.row_kinds.specs.Reader.{reader_ending}
use Rattle.row_kinds.specs.Rows.{Carried, carried, rows_in, fresh_at, phase_stopped}
use Rattle.row_kinds.specs.Rows as Rows
use Rattle.reader_words.specs.Phase.{phase_of}
use Rattle.reader_words.specs.RowReader.{row_reader_words, row_reader_of}
use Rattle.woldgrater_service.specs.declared.chunks.State.{State}
use Rattle.woldgrater_service.specs.Play.{status_length, room, refused}

-- the state before the first chunk
unfoldable pub started : State
started = record { reader = row_reader_words (fresh_at phase.First); kept = 0 }

-- the reader of a state has stopped: it has printed 6 and reads no more
abbrev pub stopped_in : State → Bool
stopped_in state = phase_stopped (phase_of state.reader.phase)

-- what the caller holds from call to call: the state, the buffer of a line and the arrays of the relief window
pub record Memory : Type 0 where
  pub state : State
  pub line : List ℕ
  pub times : List Float
  pub integrals : List Float

abbrev pub memory : State → List ℕ → List Float → List Float → Memory
memory state line times integrals = record { state = state; line = line; times = times; integrals = integrals }

-- the reader that it stands for, and the bytes kept of a line
abbrev pub reader_in : Memory → Carried
reader_in m = carried (row_reader_of m.state.reader) m.times m.integrals

abbrev pub part_in : State → List ℕ → List ℕ
part_in state line = take state.kept line

-- what a chunk leaves: the reader, with the states of the other kinds as they were; the part of a line; and the answers at the start of the output, with every
-- other byte of that as it was
abbrev pub FedTo : Memory → List ℕ → List ℕ → Memory → List ℕ → ℕ → Type 0
FedTo m chunk out next after sent =
    Rows.FedTo (reader_in m) (part_in m.state m.line) chunk out (reader_in next) next.line next.state.kept after sent

-- fed where there is room, and else refused, with all as it was
pub record FedOrRefused (m : Memory) (chunk out : List ℕ) (next : Memory) (after : List ℕ) (sent : ℕ) : Type 0 where
  pub fed : room (length chunk) ≤ length out → FedTo m chunk out next after sent
  pub kept : length out < room (length chunk) → (sent ≡ refused) × (next ≡ m) × (after ≡ out)

-- what the end of the input leaves: what is said of it at the start of the output, and every other byte as it was; the window has no say in it
abbrev pub EndedBy : State → List ℕ → List ℕ → List ℕ → ℕ → Type 0
EndedBy state line out after r = (times integrals : List Float) → Wrote out 0 (reader_ending (rows_in (reader_in (memory state line times integrals))) (part_in state line)) r after r

-- said where there is room, and else refused, with the output as it was
pub record EndedOrRefused (state : State) (line out after : List ℕ) (r : ℕ) : Type 0 where
  pub ended : status_length ≤ length out → EndedBy state line out after r
  pub kept : length out < status_length → (r ≡ refused) × (after ≡ out)

-- ---- the calls that a file takes

-- a call of `woldgrater_feed` with room: its chunk, its output, and what it left
pub record Call : Type 0 where
  pub chunk : List ℕ
  pub out : List ℕ
  pub next : Memory
  pub after : List ℕ
  pub sent : ℕ

-- calls one after another, each on the memory that the one before left
abbrev pub Calls : Memory → List Call → Type 0
Calls m [] = Unit {0}
Calls m (c ∷ calls) = FedTo m c.chunk c.out c.next c.after c.sent × Calls c.next calls

-- the memory that they leave, the bytes that they were fed, and those that they gave to be written
abbrev pub memory_after : Memory → List Call → Memory
memory_after m [] = m
memory_after m (c ∷ calls) = memory_after c.next calls

abbrev pub fed_by : List Call → List (List ℕ)
fed_by calls = map (λ (c : Call). c.chunk) calls

abbrev pub sent_by : List Call → List ℕ
sent_by calls = whole (map (λ (c : Call). take c.sent c.after) calls)
