-- A fresh state, the state after an accepted row, and a row: its commands and the next state, or its refusal and the old state.
use Rattle.std.specs.Prelude.{Bool, false, None, Some, Result}
use Rattle.reals.specs.Constants.{plus_zero}
use Rattle.reals.specs.Threshold.{threshold_above, threshold_below, threshold_update}
use Rattle.reals.specs.Pid.{pid_new, pid_update}
use Rattle.logical.specs.Edge.{edge_new, edge_update}
use Rattle.logical.specs.Latch.{latch_new, latch_update}
use Rattle.logical.specs.HeldTimer.{held_timer_new, held_timer_update}
use Rattle.logical.specs.HourTimer.{hour_timer_new, hour_timer_update}
use Rattle.logical.specs.TrueFalseHold.{true_false_hold_new, true_false_hold_update}
use Rattle.refusals.specs.declared.Refusal.{Refusal}
use Rattle.refusals.specs.declared.step.Step.{Step}
use Rattle.refusals.specs.Refusals.{Verdict}
use Rattle.refusals.specs.Step.{stepped}
use Rattle.freeze_protection.specs.declared.types.FreezeCommands.{FreezeCommands}
use Rattle.freeze_protection.specs.declared.types.FreezeRow.{FreezeRow}
use Rattle.freeze_protection.specs.declared.types.FreezeState.{FreezeState}
use Rattle.freeze_protection.specs.declared.types.FreezeSignals.{FreezeSignals}
use Rattle.freeze_protection.specs.Constants.{cold_stage1, cold_stage2, cold_stage3, warm_level, band, five_minutes, fifteen_minutes, hour, stage1_setpoint, stage3_setpoint}
use Rattle.freeze_protection.specs.Verdict.{freeze_verdict}
use Rattle.freeze_protection.specs.Signals.{freeze_signals}
use Rattle.freeze_protection.specs.Commands.{freeze_commands}

-- the blocks as FreezeProtection.mo parameterises them, before any row; the hold of stage 2 lasts an hour once on, and comes on at once. Stage 2's own hour (tim5)
-- stops with the hold, or, where stage 2 keeps to its hour (Guideline 36), runs on
unfoldable pub freeze_start : Bool → FreezeState
freeze_start keeps_hour = record {
  last = None;
  les_thr = threshold_below cold_stage1 band;
  tim = held_timer_new five_minutes;
  hea_coil_stage_1 = pid_new;
  gre_thr = threshold_above warm_level band;
  lat = latch_new;
  tim1 = held_timer_new five_minutes;
  end_sta_one = edge_new;
  les_thr1 = threshold_below cold_stage2 band;
  tim2 = held_timer_new five_minutes;
  hol_sta2 = true_false_hold_new hour plus_zero;
  tim3 = held_timer_new fifteen_minutes;
  les_thr2 = threshold_below cold_stage3 band;
  tim4 = held_timer_new five_minutes;
  lat1 = latch_new;
  hea_coil_stage_3 = pid_new;
  tim5 = hour_timer_new hour keeps_hour;
  lat2 = latch_new;
  end_sta_two = edge_new;
}

-- the start of freeze_protection.rs
unfoldable pub freeze_fresh : FreezeState
freeze_fresh = freeze_start false

-- every block one row further, each with the input that its output was worked from
unfoldable pub freeze_next : FreezeState → FreezeRow → FreezeSignals → FreezeState
freeze_next state row signals =
    let t = row.time in
    let supply = row.supply_air_temperature in
    let calls = signals.calls in
    record {
      last = Some t;
      les_thr = threshold_update state.les_thr supply;
      tim = held_timer_update state.tim t calls.les_thr_y;
      hea_coil_stage_1 = pid_update state.hea_coil_stage_1 t stage1_setpoint supply;
      gre_thr = threshold_update state.gre_thr supply;
      lat = latch_update state.lat signals.or2_y calls.end_sta_one_y;
      tim1 = held_timer_update state.tim1 t calls.gre_thr_y;
      end_sta_one = edge_update state.end_sta_one calls.tim1.passed;
      les_thr1 = threshold_update state.les_thr1 supply;
      tim2 = held_timer_update state.tim2 t calls.les_thr1_y;
      hol_sta2 = true_false_hold_update state.hol_sta2 t calls.tim2.passed;
      tim3 = held_timer_update state.tim3 t calls.les_thr1_y;
      les_thr2 = threshold_update state.les_thr2 supply;
      tim4 = held_timer_update state.tim4 t calls.les_thr2_y;
      lat1 = latch_update state.lat1 signals.or8_y row.software_reset;
      hea_coil_stage_3 = pid_update state.hea_coil_stage_3 t stage3_setpoint signals.stage_3_measurement;
      tim5 = hour_timer_update state.tim5 t calls.hol_sta2_y;
      lat2 = latch_update state.lat2 calls.hol_sta2_y signals.end_sta_two_y;
      end_sta_two = edge_update state.end_sta_two signals.tim5.passed;
    }

-- a row's answer: the commands of an accepted row, or the refusal; and beside it the state for the next row
abbrev pub FreezeAnswer : Type 0
FreezeAnswer = Result FreezeCommands Refusal

abbrev pub FreezeStep : Type 0
FreezeStep = Step FreezeCommands FreezeState

-- a row that is accepted has its commands and moves the state on; a refused one has the refusal, no command, and hands the old state back
unfoldable pub step_by : Verdict → FreezeState → FreezeRow → FreezeStep
step_by verdict state row =
    let signals = freeze_signals state row in
    stepped verdict (freeze_commands row signals) (freeze_next state row signals) state

-- a row: what its verdict makes of it
unfoldable pub freeze_row : FreezeState → FreezeRow → FreezeStep
freeze_row state row = step_by (freeze_verdict state row) state row
