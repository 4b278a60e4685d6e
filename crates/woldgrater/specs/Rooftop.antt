-- What a caller of the joined row gets, a call a row: its words for the answers of `rooftop_row`.
use Rattle.std.specs.Prelude.{List, Float}
use Rattle.rooftop.specs.declared.types.RooftopState.{RooftopState}
use Rattle.rooftop.specs.Step.{RooftopAnswer, RooftopStep}
use Rattle.rooftop.specs.Lent.{held_of, lent_state}
use Rattle.rooftop_words.specs.Rooftop.{rooftop_words, rooftop_of}
use Rattle.rooftop_words.specs.RooftopCommands.{rooftop_commands_words, rooftop_commands_zero}
use Rattle.rooftop_words.specs.declared.rooftop_state.RooftopWords.{RooftopWords}
use Rattle.rooftop_words.specs.declared.rooftop_commands.RooftopCommandsWords.{RooftopCommandsWords}
use Rattle.woldgrater.specs.declared.answered.Answered.{Answered}
use Rattle.woldgrater.specs.declared.joined.RooftopGiven.{RooftopGiven}
use Rattle.woldgrater.specs.Answered.{answered}
use Rattle.woldgrater.specs.Memory.{Memory, memory, Called}

-- what a caller holds: the words, and the arrays of the relief window
abbrev pub RooftopMemory : Type 0
RooftopMemory = Memory RooftopWords

-- of a state, and the state that it stands for
abbrev pub rooftop_memory : RooftopState → RooftopMemory
rooftop_memory s = memory (rooftop_words (held_of s)) s.relief.window.times s.relief.window.integrals

abbrev pub rooftop_in : RooftopMemory → RooftopState
rooftop_in m = lent_state (rooftop_of m.words) m.times m.integrals

-- status and commands of an answer
abbrev pub rooftop_answered : RooftopAnswer → Answered RooftopCommandsWords
rooftop_answered = answered rooftop_commands_words rooftop_commands_zero

-- what a call leaves
abbrev pub RooftopCalled : Type 0
RooftopCalled = Called RooftopWords RooftopCommandsWords

abbrev pub rooftop_called : RooftopGiven → List Float → List Float → RooftopCalled
rooftop_called given times integrals = record { left = memory given.state times integrals; answered = record { status = given.status; commands = given.commands } }

-- a row's step as the caller gets it
unfoldable pub rooftop_given : RooftopStep → RooftopCalled
rooftop_given step = record { left = rooftop_memory step.state; answered = rooftop_answered step.answer }
