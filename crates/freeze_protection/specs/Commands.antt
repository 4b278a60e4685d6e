-- The outputs of a row (Guideline 36, freeze protection; the switches of FreezeProtection.mo).
use Rattle.std.specs.Prelude.{not, ◌&&◌}
use Rattle.reals.specs.Constants.{plus_zero, one}
use Rattle.reals.specs.Switch.{switch}
use Rattle.freeze_protection.specs.declared.types.FreezeRow.{FreezeRow}
use Rattle.freeze_protection.specs.declared.types.FreezeSignals.{FreezeSignals}
use Rattle.freeze_protection.specs.declared.types.FreezeCommands.{FreezeCommands}

-- Each latch switches what the lower ones leave. That of stage 1: outdoor damper at its minimum position, heating coil by its loop,
-- hot water request 2. Of stage 2: both outdoor dampers 0, return damper 1, alarm 3. Of stage 3: fan off, speed 0, all three dampers 0, cooling coil 1, pump on, heating
-- coil by its own loop, hot water request 2, alarm 2. Else the inputs, with the pump off, no request and no alarm.
unfoldable pub freeze_commands : FreezeRow → FreezeSignals → FreezeCommands
freeze_commands row signals =
    let one' = signals.lat_y in
    let two = signals.lat2_y in
    let three = signals.lat1_y in
    record {
      freeze_protection_stage = signals.stage;
      chilled_water_pump_enable = three;
      return_damper_command = switch three plus_zero (switch two one row.return_damper);
      outdoor_damper_command = switch three plus_zero (switch two plus_zero (switch one' row.outdoor_damper_min_position row.outdoor_damper));
      minimum_outdoor_damper_command = switch three plus_zero (switch two plus_zero row.minimum_outdoor_damper);
      supply_fan_status = row.supply_fan_status && not three;
      supply_fan_speed = switch three plus_zero row.supply_fan_speed;
      cooling_coil_command = switch three one row.cooling_coil;
      heating_coil_command = switch three signals.stage_3_heat (switch one' signals.stage_1_heat row.heating_coil);
      hot_water_plant_request = switch three 2 (switch one' 2 0);
      alarm_level = switch three 2 (switch two 3 0);
    }
