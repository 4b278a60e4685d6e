-- The outputs of a row (ReliefFanGroup.mo: yDpBui, yRelFan, yDam), worked from its signals.
use Rattle.std.specs.Prelude.{Bool, List}
use Rattle.reals.specs.Constants.{plus_zero}
use Rattle.reals.specs.Four.{real}
use Rattle.reals.specs.Switch.{switch}
use Rattle.relief_fans.specs.Flags.{switch_each, any_of}
use Rattle.relief_fans.specs.Commands.{fan_speed, damper}
use Rattle.relief_fan_group.specs.declared.types.ReliefRow.{ReliefRow}
use Rattle.relief_fan_group.specs.declared.types.StageUp.{StageUp}
use Rattle.relief_fan_group.specs.declared.types.StageDown.{StageDown}
use Rattle.relief_fan_group.specs.declared.types.ReliefSignals.{ReliefSignals}
use Rattle.relief_fan_group.specs.declared.types.ReliefCommands.{ReliefCommands}

-- logSwi, the fans commanded on: those of or2 while the stage-up latch is on; else those that are proven, but while the stage-down latch is on and some fan is proven
-- those of xor
unfoldable pub fans_on : List Bool → StageUp → StageDown → List Bool
fans_on proof up down = switch_each up.lat2_y up.or2 (switch_each up.all_fans_off proof (switch_each down.lat1_y down.xor proof))

-- logSwi2, the dampers commanded open, before the alarm guard: those of the fans that are on, or, where none is, those of stage zero
abbrev pub opened_of : ReliefRow → ReliefSignals → List Bool
opened_of row signals = let on = fans_on row.proof signals.up signals.down in switch_each (any_of on) on signals.dampers.ena_dam

-- the mean; the speed of each fan that is on, 0 where no fan is enabled; the dampers, behind the alarm guard
unfoldable pub relief_commands : ReliefRow → ReliefSignals → ReliefCommands
relief_commands row signals =
    let control = signals.control in
    let on = fans_on row.proof signals.up signals.down in
    let speeds = fan_speed (switch control.any_enabled control.gated_controller plus_zero) on in
    let opened = damper (opened_of row signals) row.alarm row.proof in
    record {
      averaged_pressure = control.average;
      fan_speed_1 = real speeds 0;
      fan_speed_2 = real speeds 1;
      fan_speed_3 = real speeds 2;
      fan_speed_4 = real speeds 3;
      damper_1 = real opened 0;
      damper_2 = real opened 1;
      damper_3 = real opened 2;
      damper_4 = real opened 3;
    }
