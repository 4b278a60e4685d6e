-- A fresh state, the state after an accepted row, and a row: its commands and the next state, or its refusal and the old state.
use Rattle.std.specs.Prelude.{true, not, pos, None, Some, Result}
use Rattle.reals.specs.Constants.{plus_zero, half}
use Rattle.reals.specs.Four.{each4}
use Rattle.reals.specs.Threshold.{threshold_above, threshold_below, threshold_update}
use Rattle.logical.specs.Latch.{latch_new, latch_update}
use Rattle.logical.specs.Pre.{pre_new, pre_update}
use Rattle.logical.specs.PresentTimer.{present_timer_new, present_timer_update}
use Rattle.logical.specs.TrueDelayOnInit.{true_delay_on_init_new}
use Rattle.refusals.specs.declared.Refusal.{Refusal}
use Rattle.refusals.specs.declared.step.Step.{Step}
use Rattle.refusals.specs.Refusals.{Verdict}
use Rattle.refusals.specs.Step.{stepped}
use Rattle.moving_average.specs.State.{moving_average_new, moving_average_output, moving_average_is_full, moving_average_update}
use Rattle.relief_fans.specs.Alarms.{alarm_bytes}
use Rattle.relief_fans.specs.Blocks.{threshold_updates, delay_updates}
use Rattle.relief_fan_group.specs.declared.types.ReliefCommands.{ReliefCommands}
use Rattle.relief_fan_group.specs.declared.types.ReliefRow.{ReliefRow}
use Rattle.relief_fan_group.specs.declared.types.ReliefBlocks.{ReliefBlocks}
use Rattle.relief_fan_group.specs.declared.types.ReliefState.{ReliefState}
use Rattle.relief_fan_group.specs.declared.types.ReliefSignals.{ReliefSignals}
use Rattle.relief_fan_group.specs.Constants.{min_speed, stage_up_level, damper_open, damper_shut, hys, damper_shut_time, stage_up_time, stage_down_time, proof_time}
use Rattle.relief_fan_group.specs.Verdict.{relief_verdict}
use Rattle.relief_fan_group.specs.Signals.{relief_signals}
use Rattle.relief_fan_group.specs.Commands.{relief_commands}

-- the blocks as `relief_fan_group_trace` makes them, before any row; pre and pre1 start true; the alarms remembered are 0
unfoldable pub relief_blocks : ReliefBlocks
relief_blocks = record {
  last = None;
  alarms = each4 (λ i. pos 0);
  gre_thr = threshold_above damper_open hys;
  les_thr = threshold_below damper_shut hys;
  tim = present_timer_new damper_shut_time;
  lat = latch_new;
  gre_thr1 = each4 (λ i. threshold_above half plus_zero);
  gre_thr2 = threshold_above stage_up_level hys;
  up_tim = present_timer_new stage_up_time;
  pre = pre_new true;
  les_thr1 = each4 (λ i. threshold_below half plus_zero);
  les_thr2 = each4 (λ i. threshold_below half plus_zero);
  tru_del = each4 (λ i. true_delay_on_init_new proof_time);
  lat2 = latch_new;
  les_thr3 = threshold_below min_speed hys;
  dow_tim = present_timer_new stage_down_time;
  pre1 = pre_new true;
  les_thr4 = each4 (λ i. threshold_below half plus_zero);
  les_thr5 = each4 (λ i. threshold_below half plus_zero);
  tru_del1 = each4 (λ i. true_delay_on_init_new proof_time);
  lat1 = latch_new;
  gre_thr3 = each4 (λ i. threshold_above half plus_zero);
}

-- a start: an empty window, and the blocks before any row
unfoldable pub relief_fresh : ReliefState
relief_fresh = record { window = moving_average_new; blocks = relief_blocks }

-- every block one row further, each with the input that its output was worked from; the row's alarms in a byte each
unfoldable pub relief_next : ReliefBlocks → ReliefRow → ReliefSignals → ReliefBlocks
relief_next blocks row signals =
    let t = row.time in
    let control = signals.control in
    let up = signals.up in
    let down = signals.down in
    let u = control.controller in
    record {
      last = Some t;
      alarms = alarm_bytes row.alarm;
      gre_thr = threshold_update blocks.gre_thr u;
      les_thr = threshold_update blocks.les_thr u;
      tim = present_timer_update blocks.tim t signals.dampers.damper_close_request;
      lat = latch_update blocks.lat signals.dampers.damper_open signals.dampers.tim.passed;
      gre_thr1 = threshold_updates blocks.gre_thr1 control.gai;
      gre_thr2 = threshold_update blocks.gre_thr2 u;
      up_tim = present_timer_update blocks.up_tim t up.up_gate;
      pre = pre_update blocks.pre (not up.up_tim.passed);
      les_thr1 = threshold_updates blocks.les_thr1 up.pro1;
      les_thr2 = threshold_updates blocks.les_thr2 up.up_distance;
      tru_del = delay_updates blocks.tru_del t up.or2;
      lat2 = latch_update blocks.lat2 up.up_tim.passed up.all_newly_started_proven;
      les_thr3 = threshold_update blocks.les_thr3 u;
      dow_tim = present_timer_update blocks.dow_tim t down.down_gate;
      pre1 = pre_update blocks.pre1 (not down.dow_tim.passed);
      les_thr4 = threshold_updates blocks.les_thr4 down.pro2;
      les_thr5 = threshold_updates blocks.les_thr5 down.down_distance;
      tru_del1 = delay_updates blocks.tru_del1 t down.not5;
      lat1 = latch_update blocks.lat1 down.dow_tim.passed down.all_stopped_matches;
      gre_thr3 = threshold_updates blocks.gre_thr3 control.ena_rel;
    }

-- the signals of a row: the mean comes from the window before the row is stored
unfoldable pub signals_at : ReliefState → ReliefRow → ReliefSignals
signals_at state row = relief_signals state.blocks row (moving_average_output state.window row.time row.pressure)

-- the state after an accepted row: the window and every block one row further
abbrev pub relief_after : ReliefState → ReliefRow → ReliefState
relief_after state row =
    record { window = moving_average_update state.window row.time row.pressure; blocks = relief_next state.blocks row (signals_at state row) }

-- a row's answer: the commands of an accepted row, or the refusal; and beside it the state for the next row
abbrev pub ReliefAnswer : Type 0
ReliefAnswer = Result ReliefCommands Refusal

abbrev pub ReliefStep : Type 0
ReliefStep = Step ReliefCommands ReliefState

-- a row that is accepted has its commands and moves the state on; a refused one has the refusal, no command, and hands the old state back
unfoldable pub step_by : Verdict → ReliefState → ReliefRow → ReliefStep
step_by verdict state row = stepped verdict (relief_commands row (signals_at state row)) (relief_after state row) state

-- a row: what its verdict makes of it
unfoldable pub relief_row : ReliefState → ReliefRow → ReliefStep
relief_row state row = step_by (relief_verdict state.blocks row (moving_average_is_full state.window row.time)) state row
