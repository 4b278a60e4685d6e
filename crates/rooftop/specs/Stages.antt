-- What stages 3 and 2 of freeze protection command in the joined sequence (change request 6). proofs/Stages.antt shows it.
use Rattle.std.specs.Prelude.{◌≡◌}
use Rattle.reals.specs.Constants.{plus_zero, one}
use Rattle.reals.specs.Four.{each4}
use Rattle.relief_fan_group.specs.Alarms.{speeds_of}
use Rattle.rooftop.specs.declared.types.RooftopCommands.{RooftopCommands}

-- stage 3: freeze protection shuts the outdoor and the return damper, and every relief fan stands still
pub record RooftopStageThree (c : RooftopCommands) : Type 0 where
  pub outdoor_damper : c.freeze.outdoor_damper_command ≡ plus_zero
  pub return_damper : c.freeze.return_damper_command ≡ plus_zero
  pub fan_speeds : speeds_of c.relief ≡ each4 (λ i. plus_zero)

-- stage 2: it shuts the outdoor damper and opens the return damper full
pub record RooftopStageTwo (c : RooftopCommands) : Type 0 where
  pub outdoor_damper : c.freeze.outdoor_damper_command ≡ plus_zero
  pub return_damper : c.freeze.return_damper_command ≡ one
