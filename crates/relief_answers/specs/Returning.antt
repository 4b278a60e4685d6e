-- Rows whose mean is infinite at one of them and finite after it: the sum of pressure times gap is finite throughout. played/infinite-mean-returns.rows has the same.
use Rattle.std.specs.Prelude.{ℕ, ◌*◌, ◌^◌, true, false, List, [], ◌∷◌, Float, pos}
use Rattle.std.specs.Float.{binary64}
use Rattle.std.specs.Float.Ieee.{round}
use Rattle.reals.specs.Constants.{whole}
use Rattle.reals.specs.Four.{each4}
use Rattle.relief_fan_group.specs.declared.types.ReliefRow.{ReliefRow}

-- a row at this many seconds with this pressure: both supply fans on, no alarm, no fan proven
abbrev pub pressure_row : ℕ → Float → ReliefRow
pressure_row seconds pressure = record { time = whole seconds; supply = true ∷ true ∷ []; pressure = pressure; alarm = each4 (λ i. pos 0); proof = each4 (λ i. false) }

-- the newest first: between 1 s and 301 s the sum goes from -1.2e308 to 1.2e308 Pa s
abbrev pub returning : List ReliefRow
returning =
    pressure_row 601 (whole 0)
    ∷ pressure_row 301 (round binary64 false (8 * 10 ^ 305) 1)
    ∷ pressure_row 151 (round binary64 false (8 * 10 ^ 305) 1)
    ∷ pressure_row 1 (round binary64 true (12 * 10 ^ 307) 1)
    ∷ pressure_row 0 (whole 0)
    ∷ []
