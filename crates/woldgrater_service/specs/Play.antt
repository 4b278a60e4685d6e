-- What a caller gets that hands in a whole row file (docs/ROW_FILES.md): the answers to its lines, and what is said at its end.
use Rattle.std.specs.Prelude.{ℕ, ◌+◌, ◌*◌, ◌-◌, ◌^◌, ◌≤◌, ◌<◌, ◌≡◌, List, length}
use Rattle.columns.specs.Column.{Wrote}
use Rattle.row_kinds.specs.Rows.{rows_output}

-- the bytes of a status line
abbrev pub status_length : ℕ
status_length = 22

-- the room asked of an output for the answers to n bytes: a status line for each of them, for each of the 256 that a line buffer holds, and for the end
abbrev pub room : ℕ → ℕ
room n = status_length * (257 + n)

-- the answer to a caller whose output is too small
abbrev pub refused : ℕ
refused = 2 ^ 64 - 1

-- what a row file leaves: its output in the first r bytes, and every other byte as it was
abbrev pub Played : List ℕ → List ℕ → List ℕ → ℕ → Type 0
Played rows out after r = Wrote out 0 (rows_output rows) r after r

-- played where there is room, and else refused, with the output as it was
pub record PlayedOrRefused (rows out after : List ℕ) (r : ℕ) : Type 0 where
  pub played : room (length rows) ≤ length out → Played rows out after r
  pub kept : length out < room (length rows) → (r ≡ refused) × (after ≡ out)
