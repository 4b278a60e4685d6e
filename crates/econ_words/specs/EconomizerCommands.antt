-- `EconomizerCommands` of economizer_controller as words. Written by tools/words.
use Rattle.econ_words.specs.declared.economizer_commands.EconomizerCommandsWords.{EconomizerCommandsWords}
use Rattle.economizer_controller.specs.declared.types.EconomizerCommands.{EconomizerCommands}
use Rattle.block_words.specs.Flags.{flag_word}
use Rattle.reals.specs.Constants.{plus_zero}

-- `EconomizerCommands` as words
unfoldable pub economizer_commands_words : EconomizerCommands → EconomizerCommandsWords
economizer_commands_words s = record {
  outdoor_damper_min_limit = s.outdoor_damper_min_limit;
  minimum_outdoor_air_loop_enabled = flag_word s.minimum_outdoor_air_loop_enabled;
  outdoor_damper_command = s.outdoor_damper_command;
  return_damper_command = s.return_damper_command;
}

-- all words 0
unfoldable pub economizer_commands_zero : EconomizerCommandsWords
economizer_commands_zero = record {
  outdoor_damper_min_limit = plus_zero;
  minimum_outdoor_air_loop_enabled = 0;
  outdoor_damper_command = plus_zero;
  return_damper_command = plus_zero;
}
