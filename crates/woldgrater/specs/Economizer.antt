-- Written by tools/words from what freeze protection has.
-- What a caller of the economizer gets, a call a row: its words for the answers of `economizer_row`.
use Rattle.economizer_controller.specs.Step.{EconomizerAnswer}
use Rattle.economizer_controller.specs.Step.{EconomizerStep}
use Rattle.econ_words.specs.Economizer.{economizer_words}
use Rattle.econ_words.specs.EconomizerCommands.{economizer_commands_words, economizer_commands_zero}
use Rattle.econ_words.specs.declared.economizer_commands.EconomizerCommandsWords.{EconomizerCommandsWords}
use Rattle.woldgrater.specs.declared.answered.Answered.{Answered}
use Rattle.woldgrater.specs.declared.econ.EconomizerGiven.{EconomizerGiven}
use Rattle.woldgrater.specs.Answered.{answered}

-- status and commands of an answer
abbrev pub economizer_answered : EconomizerAnswer → Answered EconomizerCommandsWords
economizer_answered = answered economizer_commands_words economizer_commands_zero

-- a row's step as the caller gets it
unfoldable pub economizer_given : EconomizerStep → EconomizerGiven
economizer_given step = let a = economizer_answered step.answer in record { state = economizer_words step.state; status = a.status; commands = a.commands }
