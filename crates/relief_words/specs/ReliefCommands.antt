-- `ReliefCommands` of relief_fan_group as words. Written by tools/words.
use Rattle.relief_fan_group.specs.declared.types.ReliefCommands.{ReliefCommands}
use Rattle.relief_words.specs.declared.relief_commands.ReliefCommandsWords.{ReliefCommandsWords}
use Rattle.reals.specs.Constants.{plus_zero}

-- `ReliefCommands` as words
unfoldable pub relief_commands_words : ReliefCommands → ReliefCommandsWords
relief_commands_words s = record {
  averaged_pressure = s.averaged_pressure;
  fan_speed_1 = s.fan_speed_1;
  fan_speed_2 = s.fan_speed_2;
  fan_speed_3 = s.fan_speed_3;
  fan_speed_4 = s.fan_speed_4;
  damper_1 = s.damper_1;
  damper_2 = s.damper_2;
  damper_3 = s.damper_3;
  damper_4 = s.damper_4;
}

-- all words 0
unfoldable pub relief_commands_zero : ReliefCommandsWords
relief_commands_zero = record {
  averaged_pressure = plus_zero;
  fan_speed_1 = plus_zero;
  fan_speed_2 = plus_zero;
  fan_speed_3 = plus_zero;
  fan_speed_4 = plus_zero;
  damper_1 = plus_zero;
  damper_2 = plus_zero;
  damper_3 = plus_zero;
  damper_4 = plus_zero;
}
