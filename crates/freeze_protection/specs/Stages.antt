-- What each stage commands (Guideline 36, freeze protection). proofs/Stages.antt shows it of the commands of every row, whatever the state.
use Rattle.std.specs.Prelude.{◌≡◌, true, false}
use Rattle.reals.specs.Constants.{plus_zero, one}
use Rattle.freeze_protection.specs.declared.types.FreezeCommands.{FreezeCommands}

-- stage 3: fan off, speed 0, all three dampers 0, cooling 1, alarm 2, pump on
pub record StageThree (c : FreezeCommands) : Type 0 where
  pub fan_off : c.supply_fan_status ≡ false
  pub fan_speed : c.supply_fan_speed ≡ plus_zero
  pub return_damper : c.return_damper_command ≡ plus_zero
  pub outdoor_damper : c.outdoor_damper_command ≡ plus_zero
  pub minimum_outdoor_damper : c.minimum_outdoor_damper_command ≡ plus_zero
  pub cooling_coil : c.cooling_coil_command ≡ one
  pub alarm : c.alarm_level ≡ 2
  pub pump_on : c.chilled_water_pump_enable ≡ true

-- stage 2: both outdoor dampers 0, return 1, alarm 3
pub record StageTwo (c : FreezeCommands) : Type 0 where
  pub outdoor_damper : c.outdoor_damper_command ≡ plus_zero
  pub minimum_outdoor_damper : c.minimum_outdoor_damper_command ≡ plus_zero
  pub return_damper : c.return_damper_command ≡ one
  pub alarm : c.alarm_level ≡ 3
