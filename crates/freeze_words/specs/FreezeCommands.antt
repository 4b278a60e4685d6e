-- `FreezeCommands` of freeze_protection as words. Written by tools/words.
use Rattle.freeze_protection.specs.declared.types.FreezeCommands.{FreezeCommands}
use Rattle.freeze_words.specs.declared.freeze_commands.FreezeCommandsWords.{FreezeCommandsWords}
use Rattle.block_words.specs.Flags.{flag_word}
use Rattle.reals.specs.Constants.{plus_zero}

-- `FreezeCommands` as words
unfoldable pub freeze_commands_words : FreezeCommands → FreezeCommandsWords
freeze_commands_words s = record {
  freeze_protection_stage = s.freeze_protection_stage;
  chilled_water_pump_enable = flag_word s.chilled_water_pump_enable;
  return_damper_command = s.return_damper_command;
  outdoor_damper_command = s.outdoor_damper_command;
  minimum_outdoor_damper_command = s.minimum_outdoor_damper_command;
  supply_fan_status = flag_word s.supply_fan_status;
  supply_fan_speed = s.supply_fan_speed;
  cooling_coil_command = s.cooling_coil_command;
  heating_coil_command = s.heating_coil_command;
  hot_water_plant_request = s.hot_water_plant_request;
  alarm_level = s.alarm_level;
}

-- all words 0
unfoldable pub freeze_commands_zero : FreezeCommandsWords
freeze_commands_zero = record {
  freeze_protection_stage = 0;
  chilled_water_pump_enable = 0;
  return_damper_command = plus_zero;
  outdoor_damper_command = plus_zero;
  minimum_outdoor_damper_command = plus_zero;
  supply_fan_status = 0;
  supply_fan_speed = plus_zero;
  cooling_coil_command = plus_zero;
  heating_coil_command = plus_zero;
  hot_water_plant_request = 0;
  alarm_level = 0;
}
