-- When the economizer learns of a freeze stage: on the row after the one that called it (change request 6). proofs/StageSeen.antt shows it.
use Rattle.std.specs.Prelude.{ℕ, Bool, true, false, List, [], ◌∷◌, Float, pos, Option, None, Some}
use Rattle.reals.specs.Constants.{plus_zero, one, whole}
use Rattle.reals.specs.Four.{each4}
use Rattle.past.specs.Whole.{Told, NotTaken, Taken}
use Rattle.rooftop.specs.declared.types.RooftopRow.{RooftopRow}
use Rattle.rooftop.specs.Reading.{RooftopReading}

-- the same row with another supply air temperature and another reset
abbrev pub with_supply_air : RooftopRow → Float → Bool → RooftopRow
with_supply_air row temperature reset = record row { supply_air_temperature = temperature; software_reset = reset }

-- ---- the shortest list that shows it
-- a row at t seconds: the supply air at 277 K calls for stage 1, and outdoors 295 K enable the economizer, the supply fan being on
abbrev pub cold_row : ℕ → RooftopRow
cold_row t = record {
  time = whole t;
  supply_fan_status = true;
  outdoor_airflow_normalized = plus_zero;
  minimum_outdoor_airflow_setpoint_normalized = plus_zero;
  supply_temperature_signal = one;
  outdoor_air_temperature = whole 295;
  operation_mode = pos 1;
  heating_coil = plus_zero;
  minimum_outdoor_damper = plus_zero;
  supply_air_temperature = whole 277;
  software_reset = false;
  supply_fan_speed = plus_zero;
  cooling_coil = plus_zero;
  mixed_air_temperature = plus_zero;
  pressure = plus_zero;
  alarm = each4 (λ i. pos 0);
  proof = each4 (λ i. false);
}

-- stage 1 comes on the second row, and the third, at the same time, is the first on which the economizer is not enabled
abbrev pub three_cold_rows : List RooftopRow
three_cold_rows = cold_row 0 ∷ cold_row 300 ∷ cold_row 300 ∷ []

-- of what a row tells, its stage and whether the economizer is enabled; none of a refused one
abbrev pub stage_and_enable : Told RooftopReading → Option (ℕ × Bool)
stage_and_enable (NotTaken r) = None
stage_and_enable (Taken y) = Some (y.stage, y.economizer.enabled)
