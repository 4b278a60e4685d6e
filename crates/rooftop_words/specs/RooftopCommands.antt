-- `RooftopCommands` of rooftop as words. Written by tools/words.
use Rattle.rooftop.specs.declared.types.RooftopCommands.{RooftopCommands}
use Rattle.rooftop_words.specs.declared.rooftop_commands.RooftopCommandsWords.{RooftopCommandsWords}
use Rattle.econ_words.specs.EconomizerCommands.{economizer_commands_words, economizer_commands_zero}
use Rattle.freeze_words.specs.FreezeCommands.{freeze_commands_words, freeze_commands_zero}
use Rattle.relief_words.specs.ReliefCommands.{relief_commands_words, relief_commands_zero}

-- `RooftopCommands` as words
unfoldable pub rooftop_commands_words : RooftopCommands → RooftopCommandsWords
rooftop_commands_words s = record {
  economizer = economizer_commands_words s.economizer;
  freeze = freeze_commands_words s.freeze;
  relief = relief_commands_words s.relief;
}

-- all words 0
unfoldable pub rooftop_commands_zero : RooftopCommandsWords
rooftop_commands_zero = record {
  economizer = economizer_commands_zero;
  freeze = freeze_commands_zero;
  relief = relief_commands_zero;
}
