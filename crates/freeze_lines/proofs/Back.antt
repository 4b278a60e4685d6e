-- A freeze row and its line: the line of a row is read as that row, and a row of finite numbers is read from no other line. Assumes nothing.
use Prim.Native.Nat.{ℕ}
use mathlib.Core.Path.{◌≡◌, refl}
use mathlib.Core.List.{List, ◌++◌}
use mathlib.Core.Bool.{true}
use lib.Ieee.{binary64, fits}
use Rattle.columns.specs.Forms.{words_of, are_words}
use Rattle.columns.specs.Line.{end_of_line}
use Rattle.columns.proofs.Values.{float_given, yes_no_given}
use Rattle.line_stream.specs.RowKind.{Row}
use Rattle.row_writer.specs.Writing.{ReadsBack}
use Rattle.row_writer.proofs.RowsBack.{GivenBack, Rewritten, row_back, row_was}
use Rattle.freeze_protection.specs.declared.types.FreezeRow.{FreezeRow}
use Rattle.freeze_protection.specs.Verdict.{numbers_finite}
use Rattle.freeze_lines.specs.Freeze.{freeze_row_of, freeze_row_words, freeze_kind, freeze_line, freeze_row_text}

-- a row that 64 bits hold: each row of a program
pub record Fits (row : FreezeRow) : Type 0 where
  pub time : fits binary64 row.time ≡ true
  pub outdoor_damper_min_position : fits binary64 row.outdoor_damper_min_position ≡ true
  pub outdoor_damper : fits binary64 row.outdoor_damper ≡ true
  pub heating_coil : fits binary64 row.heating_coil ≡ true
  pub minimum_outdoor_damper : fits binary64 row.minimum_outdoor_damper ≡ true
  pub return_damper : fits binary64 row.return_damper ≡ true
  pub supply_air_temperature : fits binary64 row.supply_air_temperature ≡ true
  pub supply_fan_speed : fits binary64 row.supply_fan_speed ≡ true
  pub cooling_coil : fits binary64 row.cooling_coil ≡ true
  pub mixed_air_temperature : fits binary64 row.mixed_air_temperature ≡ true

given_back : (row : FreezeRow) → Fits row → GivenBack freeze_kind row
unfolding freeze_row_of freeze_row_words are_words
given_back row fit =
    let w1 = float_given row.time fit.time in
    let w2 = float_given row.outdoor_damper_min_position fit.outdoor_damper_min_position in
    let w3 = float_given row.outdoor_damper fit.outdoor_damper in
    let w4 = float_given row.heating_coil fit.heating_coil in
    let w5 = float_given row.minimum_outdoor_damper fit.minimum_outdoor_damper in
    let w6 = float_given row.return_damper fit.return_damper in
    let w7 = float_given row.supply_air_temperature fit.supply_air_temperature in
    let w8 = yes_no_given row.software_reset in
    let w9 = yes_no_given row.supply_fan_status in
    let w10 = float_given row.supply_fan_speed fit.supply_fan_speed in
    let w11 = float_given row.cooling_coil fit.cooling_coil in
    let w12 = float_given row.mixed_air_temperature fit.mixed_air_temperature in
    record {
      words = rw (w1.0, w2.0, w3.0, w4.0, w5.0, w6.0, w7.0, w8.0, w9.0, w10.0, w11.0, w12.0);
      back = rw (w1.1, w2.1, w3.1, w4.1, w5.1, w6.1, w7.1, w8.1, w9.1, w10.1, w11.1, w12.1);
    }

-- the line of a row is read as that row, patterns included
pub freeze_row_back : (row : FreezeRow) → Fits row → ReadsBack freeze_kind row
freeze_row_back row fit = row_back freeze_kind row (given_back row fit)

rewritten : Rewritten freeze_kind
unfolding freeze_row_of freeze_row_words words_of numbers_finite
rewritten = record { again = λ line. refl; finite = λ line. refl }

-- and a row of finite numbers is read from no line but its own
pub freeze_row_was : (line : List ℕ) (row : FreezeRow) → freeze_line line ≡ Row row → numbers_finite row ≡ true → line ++ end_of_line ≡ freeze_row_text row
freeze_row_was = row_was freeze_kind rewritten
