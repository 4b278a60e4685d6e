-- What a turn leaves: after a first line that names no kind, and after answers that could not be written, there is no next turn, so nothing more is read. And the
-- reader of freeze protection's other start.
use Rattle.std.specs.Prelude.{ℕ, ◌≤◌, ◌≡◌, List, Bool, true, false, Float}
use Rattle.freeze_protection.specs.Step.{freeze_start}
use Rattle.row_kinds.specs.declared.types.RowReader.{RowReader}
use Rattle.row_kinds.specs.Rows.{phase_stopped, Window}

pub record TurnLeft (reader : RowReader) (len : ℕ) (written more : Bool) (times integrals : List Float) : Type 0 where
  pub len_fits : len ≤ 256
  pub window : Window times integrals
  pub stops : phase_stopped reader.phase ≡ true → more ≡ false
  pub fails : written ≡ false → more ≡ false

-- the same reader, where stage 2 keeps to its hour
abbrev pub keeping_hour : RowReader → RowReader
keeping_hour reader = record { phase = reader.phase; freeze = freeze_start true; relief = reader.relief; econ = reader.econ }
