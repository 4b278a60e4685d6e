-- `EconomizerRow` of economizer_controller as words. Written by tools/words.
use Rattle.econ_words.specs.declared.economizer_row.EconomizerRowWords.{EconomizerRowWords}
use Rattle.economizer_controller.specs.declared.types.EconomizerRow.{EconomizerRow}
use Rattle.block_words.specs.Flags.{word_flag}

-- the `EconomizerRow` that words stand for
unfoldable pub economizer_row_of : EconomizerRowWords → EconomizerRow
economizer_row_of w = record {
  time = w.time;
  outdoor_airflow_normalized = w.outdoor_airflow_normalized;
  minimum_outdoor_airflow_setpoint_normalized = w.minimum_outdoor_airflow_setpoint_normalized;
  supply_temperature_signal = w.supply_temperature_signal;
  outdoor_air_temperature = w.outdoor_air_temperature;
  supply_fan_status = word_flag w.supply_fan_status;
  operation_mode = w.operation_mode;
  freeze_protection_stage = w.freeze_protection_stage;
}
