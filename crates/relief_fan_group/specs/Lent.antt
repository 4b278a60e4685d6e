-- Words for the row on a window whose arrays are lent. No public operation is promised in these words.
use Rattle.std.specs.Prelude.{List, Float}
use Rattle.refusals.specs.declared.step.Step.{Step}
use Rattle.moving_average.specs.Lent.{joined}
use Rattle.relief_fan_group.specs.declared.types.ReliefCommands.{ReliefCommands}
use Rattle.relief_fan_group.specs.declared.types.ReliefHeld.{ReliefHeld}
use Rattle.relief_fan_group.specs.declared.types.ReliefState.{ReliefState}
use Rattle.relief_fan_group.specs.Step.{ReliefStep}

-- the state that one without its arrays is with the two arrays beside it
abbrev pub lent_state : ReliefHeld → List Float → List Float → ReliefState
lent_state held times integrals = record { window = joined held.integrator times integrals; blocks = held.blocks }

-- the state without its arrays
abbrev pub held_of : ReliefState → ReliefHeld
held_of s = record {
  integrator = record { t_start = s.window.t_start; prev_t = s.window.prev_t; mu = s.window.mu; count = s.window.count };
  blocks = s.blocks;
}

-- a step without them, and the one that it is with the two arrays beside it
abbrev pub LentStep : Type 0
LentStep = Step ReliefCommands ReliefHeld

abbrev pub lent_step : LentStep → List Float → List Float → ReliefStep
lent_step step times integrals = record { answer = step.answer; state = lent_state step.state times integrals }
