-- An economizer row and its line: the line of a row is read as that row, and a row of finite numbers is read from no other line. Assumes nothing.
use Prim.Native.Nat.{ℕ, ◌<◌}
use mathlib.Core.Path.{◌≡◌, refl}
use mathlib.Core.List.{List, ◌++◌}
use mathlib.Core.Bool.{true}
use lib.Signed.{mag}
use lib.Ieee.{binary64, fits}
use Rattle.columns.specs.Forms.{words_of, are_words}
use Rattle.columns.specs.Line.{end_of_line}
use Rattle.columns.specs.Word.{half}
use Rattle.columns.proofs.Values.{float_given, yes_no_given, signed_given}
use Rattle.line_stream.specs.RowKind.{Row}
use Rattle.row_writer.specs.Writing.{ReadsBack}
use Rattle.row_writer.proofs.RowsBack.{GivenBack, Rewritten, row_back, row_was}
use Rattle.economizer_controller.specs.declared.types.EconomizerRow.{EconomizerRow}
use Rattle.economizer_controller.specs.Verdict.{numbers_finite}
use Rattle.econ_lines.specs.Econ.{econ_row_of, econ_row_words, econ_kind, econ_line, econ_row_text}

-- a row that 64 bits hold: each row of a program
pub record Fits (row : EconomizerRow) : Type 0 where
  pub time : fits binary64 row.time ≡ true
  pub outdoor_airflow_normalized : fits binary64 row.outdoor_airflow_normalized ≡ true
  pub minimum_outdoor_airflow_setpoint_normalized : fits binary64 row.minimum_outdoor_airflow_setpoint_normalized ≡ true
  pub supply_temperature_signal : fits binary64 row.supply_temperature_signal ≡ true
  pub outdoor_air_temperature : fits binary64 row.outdoor_air_temperature ≡ true
  pub operation_mode : mag row.operation_mode < half
  pub freeze_protection_stage : mag row.freeze_protection_stage < half

given_back : (row : EconomizerRow) → Fits row → GivenBack econ_kind row
unfolding econ_row_of econ_row_words are_words
given_back row fit =
    let w1 = float_given row.time fit.time in
    let w2 = float_given row.outdoor_airflow_normalized fit.outdoor_airflow_normalized in
    let w3 = float_given row.minimum_outdoor_airflow_setpoint_normalized fit.minimum_outdoor_airflow_setpoint_normalized in
    let w4 = float_given row.supply_temperature_signal fit.supply_temperature_signal in
    let w5 = float_given row.outdoor_air_temperature fit.outdoor_air_temperature in
    let w6 = yes_no_given row.supply_fan_status in
    let w7 = signed_given row.operation_mode fit.operation_mode in
    let w8 = signed_given row.freeze_protection_stage fit.freeze_protection_stage in
    record {
      words = rw (w1.0, w2.0, w3.0, w4.0, w5.0, w6.0, w7.0, w8.0);
      back = rw (w1.1, w2.1, w3.1, w4.1, w5.1, w6.1, w7.1, w8.1);
    }

-- the line of a row is read as that row, patterns included
pub econ_row_back : (row : EconomizerRow) → Fits row → ReadsBack econ_kind row
econ_row_back row fit = row_back econ_kind row (given_back row fit)

rewritten : Rewritten econ_kind
unfolding econ_row_of econ_row_words words_of numbers_finite
rewritten = record { again = λ line. refl; finite = λ line. refl }

-- and a row of finite numbers is read from no line but its own
pub econ_row_was : (line : List ℕ) (row : EconomizerRow) → econ_line line ≡ Row row → numbers_finite row ≡ true → line ++ end_of_line ≡ econ_row_text row
econ_row_was = row_was econ_kind rewritten
