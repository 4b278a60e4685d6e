-- Each sequence's row, made of the joined row and of what another sequence hands on (change request 6).
use Rattle.std.specs.Prelude.{Bool, [], ◌∷◌, ℤ}
use Rattle.economizer_controller.specs.declared.types.EconomizerRow.{EconomizerRow}
use Rattle.economizer_controller.specs.declared.types.EconomizerCommands.{EconomizerCommands}
use Rattle.freeze_protection.specs.declared.types.FreezeRow.{FreezeRow}
use Rattle.relief_fan_group.specs.declared.types.ReliefRow.{ReliefRow}
use Rattle.rooftop.specs.declared.types.RooftopRow.{RooftopRow}

-- the economizer is handed the freeze stage of the last accepted row
unfoldable pub economizer_row_of : RooftopRow → ℤ → EconomizerRow
economizer_row_of row stage = record {
  time = row.time;
  outdoor_airflow_normalized = row.outdoor_airflow_normalized;
  minimum_outdoor_airflow_setpoint_normalized = row.minimum_outdoor_airflow_setpoint_normalized;
  supply_temperature_signal = row.supply_temperature_signal;
  outdoor_air_temperature = row.outdoor_air_temperature;
  supply_fan_status = row.supply_fan_status;
  operation_mode = row.operation_mode;
  freeze_protection_stage = stage;
}

-- freeze protection is handed the economizer's outdoor minimum as its outdoor minimum position, and the economizer's outdoor and return commands as the incoming
-- positions of both dampers
unfoldable pub freeze_row_of : RooftopRow → EconomizerCommands → FreezeRow
freeze_row_of row economizer = record {
  time = row.time;
  outdoor_damper_min_position = economizer.outdoor_damper_min_limit;
  outdoor_damper = economizer.outdoor_damper_command;
  heating_coil = row.heating_coil;
  minimum_outdoor_damper = row.minimum_outdoor_damper;
  return_damper = economizer.return_damper_command;
  supply_air_temperature = row.supply_air_temperature;
  software_reset = row.software_reset;
  supply_fan_status = row.supply_fan_status;
  supply_fan_speed = row.supply_fan_speed;
  cooling_coil = row.cooling_coil;
  mixed_air_temperature = row.mixed_air_temperature;
}

-- the relief fan group is handed freeze protection's fan status as both supply flags
unfoldable pub relief_row_of : RooftopRow → Bool → ReliefRow
relief_row_of row fan = record { time = row.time; supply = fan ∷ fan ∷ []; pressure = row.pressure; alarm = row.alarm; proof = row.proof }
