-- What a caller of the relief fan group gets, a call a row: its words for the answers of `relief_row`.
use Rattle.std.specs.Prelude.{List, Float}
use Rattle.relief_fan_group.specs.declared.types.ReliefState.{ReliefState}
use Rattle.relief_fan_group.specs.Step.{ReliefAnswer}
use Rattle.relief_fan_group.specs.Step.{ReliefStep}
use Rattle.relief_fan_group.specs.Lent.{held_of, lent_state}
use Rattle.relief_words.specs.Relief.{relief_words, relief_of}
use Rattle.relief_words.specs.ReliefCommands.{relief_commands_words, relief_commands_zero}
use Rattle.relief_words.specs.declared.relief_commands.ReliefCommandsWords.{ReliefCommandsWords}
use Rattle.woldgrater.specs.declared.answered.Answered.{Answered}
use Rattle.relief_words.specs.declared.relief.ReliefWords.{ReliefWords}
use Rattle.woldgrater.specs.declared.relief.ReliefGiven.{ReliefGiven}
use Rattle.woldgrater.specs.Answered.{answered}
use Rattle.woldgrater.specs.Memory.{Memory, memory, Called}

-- what a caller holds: the words, and the arrays of the window
abbrev pub ReliefMemory : Type 0
ReliefMemory = Memory ReliefWords

-- of a state, and the state that it stands for
abbrev pub relief_memory : ReliefState → ReliefMemory
relief_memory s = memory (relief_words (held_of s)) s.window.times s.window.integrals

abbrev pub relief_in : ReliefMemory → ReliefState
relief_in m = lent_state (relief_of m.words) m.times m.integrals

-- status and commands of an answer
abbrev pub relief_answered : ReliefAnswer → Answered ReliefCommandsWords
relief_answered = answered relief_commands_words relief_commands_zero

-- what a call leaves
abbrev pub ReliefCalled : Type 0
ReliefCalled = Called ReliefWords ReliefCommandsWords

abbrev pub relief_called : ReliefGiven → List Float → List Float → ReliefCalled
relief_called given times integrals = record { left = memory given.state times integrals; answered = record { status = given.status; commands = given.commands } }

-- a row's step as the caller gets it
unfoldable pub relief_given : ReliefStep → ReliefCalled
relief_given step = record { left = relief_memory step.state; answered = relief_answered step.answer }
