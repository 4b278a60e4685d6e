-- What a caller of freeze protection gets, a call a row: its words for the answers of `freeze_row`.
use Rattle.freeze_protection.specs.Step.{FreezeAnswer}
use Rattle.freeze_protection.specs.Step.{FreezeStep}
use Rattle.freeze_words.specs.Freeze.{freeze_words}
use Rattle.freeze_words.specs.FreezeCommands.{freeze_commands_words, freeze_commands_zero}
use Rattle.freeze_words.specs.declared.freeze_commands.FreezeCommandsWords.{FreezeCommandsWords}
use Rattle.woldgrater.specs.declared.answered.Answered.{Answered}
use Rattle.woldgrater.specs.declared.freeze.FreezeGiven.{FreezeGiven}
use Rattle.woldgrater.specs.Answered.{answered}

-- status and commands of an answer
abbrev pub freeze_answered : FreezeAnswer → Answered FreezeCommandsWords
freeze_answered = answered freeze_commands_words freeze_commands_zero

-- a row's step as the caller gets it
unfoldable pub freeze_given : FreezeStep → FreezeGiven
freeze_given step = let a = freeze_answered step.answer in record { state = freeze_words step.state; status = a.status; commands = a.commands }
