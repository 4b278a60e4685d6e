-- `RooftopRow` of rooftop as words. Written by tools/words.
use Rattle.std.specs.Prelude.{map}
use Rattle.rooftop.specs.declared.types.RooftopRow.{RooftopRow}
use Rattle.rooftop_words.specs.declared.rooftop_row.RooftopRowWords.{RooftopRowWords}
use Rattle.block_words.specs.Flags.{word_flag}

-- the `RooftopRow` that words stand for
unfoldable pub rooftop_row_of : RooftopRowWords → RooftopRow
rooftop_row_of w = record {
  time = w.time;
  supply_fan_status = word_flag w.supply_fan_status;
  outdoor_airflow_normalized = w.outdoor_airflow_normalized;
  minimum_outdoor_airflow_setpoint_normalized = w.minimum_outdoor_airflow_setpoint_normalized;
  supply_temperature_signal = w.supply_temperature_signal;
  outdoor_air_temperature = w.outdoor_air_temperature;
  operation_mode = w.operation_mode;
  heating_coil = w.heating_coil;
  minimum_outdoor_damper = w.minimum_outdoor_damper;
  supply_air_temperature = w.supply_air_temperature;
  software_reset = word_flag w.software_reset;
  supply_fan_speed = w.supply_fan_speed;
  cooling_coil = w.cooling_coil;
  mixed_air_temperature = w.mixed_air_temperature;
  pressure = w.pressure;
  alarm = w.alarm;
  proof = map word_flag w.proof;
}
