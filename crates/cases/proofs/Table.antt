-- The one fact that covers every case of both tables; the freeze cases are computed here. Assumes nothing.
use mathlib.Core.Path.{refl}
use lib.Ieee.{le, sub, of_bits, is_nan}
use Rattle.reals.specs.Order.{greater}
use Rattle.reals.specs.Seen.{seen_above, seen_elapsed, seen_gap}
use Rattle.reals.specs.Sign.{is_sign_negative}
use Rattle.reals.specs.Switch.{switch}
use Rattle.reals.specs.Threshold.{crosses, threshold_above, threshold_below, threshold_output, threshold_update}
use Rattle.logical.specs.Edge.{edge_output, edge_update}
use Rattle.logical.specs.Latch.{latch_new, latch_output, latch_update}
use Rattle.logical.specs.Timer.{entry_time, elapsed_time}
use Rattle.logical.specs.HeldTimer.{held_timer_new, held_timer_output, held_timer_update}
use Rattle.logical.specs.HourTimer.{run_on_timer_output, run_on_timer_update, hour_timer_new, hour_timer_output, hour_timer_update}
use Rattle.logical.specs.TrueFalseHold.{true_false_hold_new, true_false_hold_required, true_false_hold_output_and_timer, true_false_hold_output, true_false_hold_update}
use Rattle.refusals.specs.Refusals.{judge}
use Rattle.logical.specs.Run.{run}
use Rattle.freeze_protection.specs.Verdict.{numbers_finite, freeze_verdict}
use Rattle.freeze_protection.specs.Signals.{freeze_calls, freeze_signals, stage_number}
use Rattle.freeze_protection.specs.Commands.{freeze_commands}
use Rattle.freeze_protection.specs.Step.{freeze_start, freeze_fresh, freeze_next, step_by, freeze_row}
use Rattle.cases.specs.Freeze.{stages_from, signalled_from}
use Rattle.cases.specs.Cases.{Cases}
use Rattle.cases.specs.KeptHour.{KeptHourCases}
use Rattle.cases.proofs.RowLinesExample.{example_is_written}
use Rattle.cases.proofs.ReliefCases.{first_mean_told, alarm_guard, waits}
use Rattle.cases.proofs.EconomizerCases.{rises_and_stays, starts_and_waits}

computed : Cases × KeptHourCases
unfolding stages_from signalled_from run freeze_row step_by freeze_verdict judge numbers_finite is_sign_negative seen_above freeze_fresh freeze_start freeze_next freeze_commands freeze_signals freeze_calls stage_number crosses threshold_above threshold_below threshold_output threshold_update edge_output edge_update latch_new latch_output latch_update switch entry_time elapsed_time held_timer_new held_timer_output held_timer_update run_on_timer_output run_on_timer_update hour_timer_new hour_timer_output hour_timer_update true_false_hold_new true_false_hold_required true_false_hold_output_and_timer true_false_hold_output true_false_hold_update seen_elapsed seen_gap greater is_nan le sub of_bits
computed = (
  record {
    f1 = λ o. (refl, refl);
    f2 = λ o. (refl, refl, refl);
    f3 = λ o. (refl, refl);
    f4 = λ o. (refl, refl);
    f5 = λ o. (refl, refl, refl);
    f6 = λ o. refl;
    r1 = first_mean_told;
    r3 = alarm_guard;
    r4 = waits;
    e1 = rises_and_stays;
    e2 = starts_and_waits;
    row_lines = example_is_written;
  },
  record { f5 = λ o. (refl, refl); f6 = λ o. refl; recovers = λ o. refl; trips = λ o. refl; early = λ o. (refl, refl); again = λ o. (refl, refl) },
)

pub all_cases : Cases
all_cases = computed.0

pub all_kept_hour_cases : KeptHourCases
all_kept_hour_cases = computed.1
