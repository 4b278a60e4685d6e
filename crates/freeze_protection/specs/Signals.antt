-- Every block's output at a row, in the order of `freeze_protection_trace`, with the names of FreezeProtection.mo
-- (Buildings.Controls.OBC.ASHRAE.G36.AHUs.MultiZone.VAV.SetPoints.FreezeProtection).
use Rattle.std.specs.Prelude.{ℕ, Bool, ◌||◌, cond}
use Rattle.reals.specs.Order.{greater}
use Rattle.reals.specs.Threshold.{threshold_output}
use Rattle.reals.specs.Pid.{pid_output}
use Rattle.logical.specs.Edge.{edge_output}
use Rattle.logical.specs.Latch.{latch_output}
use Rattle.logical.specs.HeldTimer.{held_timer_output}
use Rattle.logical.specs.HourTimer.{hour_timer_output}
use Rattle.logical.specs.TrueFalseHold.{true_false_hold_output}
use Rattle.freeze_protection.specs.declared.types.FreezeRow.{FreezeRow}
use Rattle.freeze_protection.specs.declared.types.FreezeState.{FreezeState}
use Rattle.freeze_protection.specs.declared.types.FreezeCalls.{FreezeCalls}
use Rattle.freeze_protection.specs.declared.types.FreezeSignals.{FreezeSignals}
use Rattle.freeze_protection.specs.Constants.{stage1_setpoint, stage3_setpoint}

-- what the supply air temperature calls for, of each timer its whole answer: lesThr cold for stage 1 and its 5 minutes (tim); greThr warm, its 5 minutes (tim1) and their end (endStaOne);
-- lesThr1 cold for stage 2, its 5 minutes (tim2), the hold of stage 2 (holSta2) and its 15 minutes (tim3); lesThr2 cold for stage 3 and its 5 minutes (tim4)
unfoldable pub freeze_calls : FreezeState → FreezeRow → FreezeCalls
freeze_calls state row =
    let t = row.time in
    let supply = row.supply_air_temperature in
    let les_thr = threshold_output state.les_thr supply in
    let gre_thr = threshold_output state.gre_thr supply in
    let tim1 = held_timer_output state.tim1 t gre_thr in
    let les_thr1 = threshold_output state.les_thr1 supply in
    let tim2 = held_timer_output state.tim2 t les_thr1 in
    let les_thr2 = threshold_output state.les_thr2 supply in
    record {
      les_thr_y = les_thr;
      tim = held_timer_output state.tim t les_thr;
      gre_thr_y = gre_thr;
      tim1 = tim1;
      end_sta_one_y = edge_output state.end_sta_one tim1.passed;
      les_thr1_y = les_thr1;
      tim2 = tim2;
      hol_sta2_y = true_false_hold_output state.hol_sta2 t tim2.passed;
      tim3 = held_timer_output state.tim3 t les_thr1;
      les_thr2_y = les_thr2;
      tim4 = held_timer_output state.tim4 t les_thr2;
    }

-- the stage: 3 before 2 before 1, else 0
unfoldable pub stage_number : Bool → Bool → Bool → ℕ
stage_number three two one = cond three 3 (cond two 2 (cond one 1 0))

-- the three latches, and the two heating loops. Stage 3 (lat1): from a rise of its call to a reset. Stage 2 (lat2): from a rise of its hold until the hold has been on
-- for an hour (tim5, endStaTwo), which may never come (F5), or, where stage 2 keeps to its hour, until an hour after that rise. Stage 1 (lat): from a rise of its call
-- (tim or that end of stage 2) until the supply air has recovered (endStaOne)
unfoldable pub freeze_signals : FreezeState → FreezeRow → FreezeSignals
freeze_signals state row =
    let t = row.time in
    let supply = row.supply_air_temperature in
    let calls = freeze_calls state row in
    let or8 = calls.tim3.passed || calls.tim4.passed in
    let lat1 = latch_output state.lat1 or8 row.software_reset in
    let tim5 = hour_timer_output state.tim5 t calls.hol_sta2_y in
    let end_sta_two = edge_output state.end_sta_two tim5.passed in
    let lat2 = latch_output state.lat2 calls.hol_sta2_y end_sta_two in
    let or2 = calls.tim.passed || end_sta_two in
    let lat = latch_output state.lat or2 calls.end_sta_one_y in
    let measurement = greater supply row.mixed_air_temperature in
    record {
      calls = calls;
      or8_y = or8;
      lat1_y = lat1;
      tim5 = tim5;
      end_sta_two_y = end_sta_two;
      lat2_y = lat2;
      or2_y = or2;
      lat_y = lat;
      stage = stage_number lat1 lat2 lat;
      stage_1_heat = pid_output state.hea_coil_stage_1 stage1_setpoint supply;
      stage_3_measurement = measurement;
      stage_3_heat = pid_output state.hea_coil_stage_3 stage3_setpoint measurement;
    }
