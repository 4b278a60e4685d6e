-- Every block's output at a row, with the names of ReliefFanGroup.mo (Buildings.Controls.OBC.ASHRAE.G36.AHUs.MultiZone.VAV.SetPoints.ReliefFanGroup), as
-- `relief_fan_group_trace` works them.
use Rattle.std.specs.Prelude.{◌&&◌, ◌||◌, Float}
use Rattle.std.specs.Float.{binary64}
use Rattle.std.specs.Float.Ieee.{sub, mul, div}
use Rattle.reals.specs.Constants.{plus_zero, one}
use Rattle.reals.specs.Four.{flag}
use Rattle.reals.specs.Limits.{limit}
use Rattle.reals.specs.Order.{smallest}
use Rattle.reals.specs.Switch.{bool_to_real}
use Rattle.reals.specs.Threshold.{threshold_output}
use Rattle.logical.specs.Latch.{latch_output}
use Rattle.logical.specs.Pre.{pre_output}
use Rattle.logical.specs.PresentTimer.{present_timer_output}
use Rattle.relief_fans.specs.Table.{ena_rel, gai}
use Rattle.relief_fans.specs.Flags.{not_each, or_each, and_each, xor_each, equal_each, all_of, any_of}
use Rattle.relief_fans.specs.Orders.{pro1, pro2, swi, swi3, distance}
use Rattle.relief_fans.specs.Blocks.{threshold_outputs, delay_outputs}
use Rattle.relief_fan_group.specs.declared.types.ReliefRow.{ReliefRow}
use Rattle.relief_fan_group.specs.declared.types.ReliefBlocks.{ReliefBlocks}
use Rattle.relief_fan_group.specs.declared.types.PressureControl.{PressureControl}
use Rattle.relief_fan_group.specs.declared.types.DamperEnable.{DamperEnable}
use Rattle.relief_fan_group.specs.declared.types.StageUp.{StageUp}
use Rattle.relief_fan_group.specs.declared.types.StageDown.{StageDown}
use Rattle.relief_fan_group.specs.declared.types.ReliefSignals.{ReliefSignals}
use Rattle.relief_fan_group.specs.Constants.{pressure_setpoint, min_speed}

-- the pressure loop: the mean divided by the setpoint, less 1, limited to 0 to 1 by `f64::clamp`; a NaN stays NaN
unfoldable pub pressure_loop : Float → Float
pressure_loop average = limit (sub binary64 (div binary64 average pressure_setpoint) one) plus_zero one

-- the speed that the loop asks for, at least the minimum, while a supply fan is on; each fan's enable and order; whether any fan is enabled (greThr3)
unfoldable pub pressure_control : ReliefBlocks → ReliefRow → Float → PressureControl
pressure_control blocks row average =
    let group = flag row.supply 0 || flag row.supply 1 in
    let ena = ena_rel row.supply in
    let controller = pressure_loop average in
    record {
      average = average;
      controller = controller;
      ena_rel_group = group;
      gated_controller = mul binary64 (bool_to_real group) (limit controller min_speed one);
      ena_rel = ena;
      gai = gai ena;
      any_enabled = any_of (threshold_outputs blocks.gre_thr3 ena);
    }

-- stage zero: the dampers of the enabled fans (greThr1) are opened by the loop (greThr) while a supply fan is on, and shut after 5 minutes (tim) below (lesThr)
unfoldable pub damper_enable : ReliefBlocks → ReliefRow → PressureControl → DamperEnable
damper_enable blocks row control =
    let opening = threshold_output blocks.gre_thr control.controller && control.ena_rel_group in
    let closing = threshold_output blocks.les_thr control.controller in
    let tim = present_timer_output blocks.tim row.time closing in
    record {
      damper_open = opening;
      damper_close_request = closing;
      tim = tim;
      ena_dam = and_each (threshold_outputs blocks.gre_thr1 control.gai) (latch_output blocks.lat opening tim.passed);
    }

-- stage up. The next fan has the smallest order: while some fan is proven on, of the fans enabled and not proven on (lesThr1 marks the others); while all are off, of
-- all four (swi3), so that where one supply fan is off both fans of that supply, whose order is 0, are next. or2: the fans that should then be on; each has 2 s (truDel)
-- before its proof is asked. The up pulse, upTim's pass: 7 minutes of requests (greThr2) with no pulse on the row before (pre). The pulse sets the stage latch
-- (lat2), and it is cleared where the delayed start of every fan equals its proof
unfoldable pub stage_up : ReliefBlocks → ReliefRow → PressureControl → StageUp
stage_up blocks row control =
    let proof = row.proof in
    let off = all_of (not_each proof) in
    let waiting = pro1 control.gai control.ena_rel proof in
    let next = smallest (swi3 off waiting (swi (threshold_outputs blocks.les_thr1 waiting) waiting)) in
    let away = distance control.gai next in
    let or2 = or_each (threshold_outputs blocks.les_thr2 away) proof in
    let proven = all_of (equal_each (delay_outputs blocks.tru_del row.time or2) proof) in
    let gate = threshold_output blocks.gre_thr2 control.controller && pre_output blocks.pre in
    let up_tim = present_timer_output blocks.up_tim row.time gate in
    record {
      all_fans_off = off;
      pro1 = waiting;
      up_distance = away;
      or2 = or2;
      all_newly_started_proven = proven;
      up_gate = gate;
      up_tim = up_tim;
      lat2_y = latch_output blocks.lat2 up_tim.passed proven;
    }

-- stage down. The next fan is the one with the smallest order among those enabled and proven on (lesThr4 marks the others); xor: the fans that should then be on; 2 s (truDel1).
-- The down pulse, dowTim's pass: 5 minutes of requests (lesThr3) with no pulse on the row before (pre1). It sets its stage latch (lat1), which is cleared where every fan's
-- proof differs from its delayed stop
unfoldable pub stage_down : ReliefBlocks → ReliefRow → PressureControl → StageDown
stage_down blocks row control =
    let proof = row.proof in
    let running = pro2 control.gai proof in
    let next = smallest (swi (threshold_outputs blocks.les_thr4 running) running) in
    let away = distance control.gai next in
    let xor = xor_each (threshold_outputs blocks.les_thr5 away) proof in
    let not5 = not_each xor in
    let matched = all_of (xor_each proof (delay_outputs blocks.tru_del1 row.time not5)) in
    let gate = threshold_output blocks.les_thr3 control.controller && pre_output blocks.pre1 in
    let dow_tim = present_timer_output blocks.dow_tim row.time gate in
    record {
      pro2 = running;
      down_distance = away;
      xor = xor;
      not5 = not5;
      all_stopped_matches = matched;
      down_gate = gate;
      dow_tim = dow_tim;
      lat1_y = latch_output blocks.lat1 dow_tim.passed matched;
    }

-- all four parts, worked from the mean
unfoldable pub relief_signals : ReliefBlocks → ReliefRow → Float → ReliefSignals
relief_signals blocks row average =
    let control = pressure_control blocks row average in
    record { control = control; dampers = damper_enable blocks row control; up = stage_up blocks row control; down = stage_down blocks row control }
