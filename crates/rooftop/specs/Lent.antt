-- Words for the joined row on a window whose arrays are lent. The calls for firmware are promised in them, `rooftop_row` is not.
use Rattle.std.specs.Prelude.{List, Float}
use Rattle.refusals.specs.declared.step.Step.{Step}
use Rattle.relief_fan_group.specs.Lent as relief
use Rattle.rooftop.specs.declared.types.RooftopCommands.{RooftopCommands}
use Rattle.rooftop.specs.declared.types.RooftopHeld.{RooftopHeld}
use Rattle.rooftop.specs.declared.types.RooftopState.{RooftopState}
use Rattle.rooftop.specs.Step.{RooftopStep}

-- the state that one without its arrays is with the two arrays beside it
abbrev pub lent_state : RooftopHeld → List Float → List Float → RooftopState
lent_state held times integrals =
    record { stage = held.stage; economizer = held.economizer; freeze = held.freeze; relief = relief.lent_state held.relief times integrals }

-- the state without its arrays
abbrev pub held_of : RooftopState → RooftopHeld
held_of s = record { stage = s.stage; economizer = s.economizer; freeze = s.freeze; relief = relief.held_of s.relief }

-- a step without them, and the one that it is with the two arrays beside it
abbrev pub LentStep : Type 0
LentStep = Step RooftopCommands RooftopHeld

abbrev pub lent_step : LentStep → List Float → List Float → RooftopStep
lent_step step times integrals = record { answer = step.answer; state = lent_state step.state times integrals }
