-- `FreezeRow` of freeze_protection as words. Written by tools/words.
use Rattle.freeze_protection.specs.declared.types.FreezeRow.{FreezeRow}
use Rattle.freeze_words.specs.declared.freeze_row.FreezeRowWords.{FreezeRowWords}
use Rattle.block_words.specs.Flags.{word_flag}

-- the `FreezeRow` that words stand for
unfoldable pub freeze_row_of : FreezeRowWords → FreezeRow
freeze_row_of w = record {
  time = w.time;
  outdoor_damper_min_position = w.outdoor_damper_min_position;
  outdoor_damper = w.outdoor_damper;
  heating_coil = w.heating_coil;
  minimum_outdoor_damper = w.minimum_outdoor_damper;
  return_damper = w.return_damper;
  supply_air_temperature = w.supply_air_temperature;
  software_reset = word_flag w.software_reset;
  supply_fan_status = word_flag w.supply_fan_status;
  supply_fan_speed = w.supply_fan_speed;
  cooling_coil = w.cooling_coil;
  mixed_air_temperature = w.mixed_air_temperature;
}
