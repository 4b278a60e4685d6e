-- A fresh state, a row's signals and commands, the state after an accepted row, and a row: its commands and the next state, or its refusal and the old state.
-- Economizers.Controller with minOADes = SingleDamper and a relief damper, as `economizer_controller_trace` has it: the three passes in each row.
use Rattle.std.specs.Prelude.{None, Some, Result}
use Rattle.reals.specs.Pid.{pid_with_reset_new, pid_with_reset_output, pid_with_reset_update}
use Rattle.refusals.specs.declared.Refusal.{Refusal}
use Rattle.refusals.specs.declared.step.Step.{Step}
use Rattle.refusals.specs.Refusals.{Verdict}
use Rattle.refusals.specs.Step.{stepped}
use Rattle.economizer_controller.specs.declared.types.EconomizerRow.{EconomizerRow}
use Rattle.economizer_controller.specs.declared.types.EconomizerState.{EconomizerState}
use Rattle.economizer_controller.specs.declared.types.EconomizerSignals.{EconomizerSignals}
use Rattle.economizer_controller.specs.declared.types.EconomizerCommands.{EconomizerCommands}
use Rattle.economizer_controller.specs.Constants.{outdoor_air_cutoff}
use Rattle.economizer_controller.specs.Verdict.{economizer_verdict}
use Rattle.economizer_controller.specs.DamperLimits.{minimum_outdoor_air_loop_enabled, damper_limits}
use Rattle.economizer_controller.specs.Enable.{enable_new, enable_output, enable_update, enable_limits}
use Rattle.economizer_controller.specs.Relief.{relief_modulation}

-- every block as it stands before any row
unfoldable pub economizer_fresh : EconomizerState
economizer_fresh = record { last = None; minimum_outdoor_air_loop = pid_with_reset_new; enable = enable_new }

-- the first two passes (damLim, enaDis): every block's output, and the limits worked from them
unfoldable pub economizer_signals : EconomizerState → EconomizerRow → EconomizerSignals
economizer_signals state row =
    let fan = row.supply_fan_status in
    let signal = pid_with_reset_output state.minimum_outdoor_air_loop row.minimum_outdoor_airflow_setpoint_normalized row.outdoor_airflow_normalized in
    let loop_enabled = minimum_outdoor_air_loop_enabled fan row.operation_mode in
    let limits = damper_limits signal loop_enabled in
    let enable = enable_output state.enable row.time row.outdoor_air_temperature outdoor_air_cutoff fan row.freeze_protection_stage in
    record {
      loop_signal = signal;
      minimum_outdoor_air_loop_enabled = loop_enabled;
      damper_limits = limits;
      enable = enable;
      enable_limits = enable_limits enable limits;
    }

-- the third pass (modRel), and the outputs in the order of `ControllerTrace`
unfoldable pub economizer_commands : EconomizerRow → EconomizerSignals → EconomizerCommands
economizer_commands row signals =
    let modulation = relief_modulation row.supply_temperature_signal signals.damper_limits signals.enable_limits in
    record {
      outdoor_damper_min_limit = signals.damper_limits.outdoor_damper_min_limit;
      minimum_outdoor_air_loop_enabled = signals.minimum_outdoor_air_loop_enabled;
      outdoor_damper_command = modulation.outdoor_damper_command;
      return_damper_command = modulation.return_damper_command;
    }

-- every block one row further; the loop is reset where the supply fan rises, after its output (E3)
unfoldable pub economizer_next : EconomizerState → EconomizerRow → EconomizerSignals → EconomizerState
economizer_next state row signals = record {
  last = Some row.time;
  minimum_outdoor_air_loop =
      pid_with_reset_update state.minimum_outdoor_air_loop row.time row.minimum_outdoor_airflow_setpoint_normalized row.outdoor_airflow_normalized
      row.supply_fan_status;
  enable = enable_update state.enable row.time signals.enable;
}

-- a row's answer: the commands of an accepted row, or the refusal; and beside it the state for the next row
abbrev pub EconomizerAnswer : Type 0
EconomizerAnswer = Result EconomizerCommands Refusal

abbrev pub EconomizerStep : Type 0
EconomizerStep = Step EconomizerCommands EconomizerState

-- a row that is accepted has its commands and moves the state on; a refused one has the refusal, no command, and hands the old state back
unfoldable pub step_by : Verdict → EconomizerState → EconomizerRow → EconomizerStep
step_by verdict state row =
    let signals = economizer_signals state row in
    stepped verdict (economizer_commands row signals) (economizer_next state row signals) state

-- a row: what its verdict makes of it
unfoldable pub economizer_row : EconomizerState → EconomizerRow → EconomizerStep
economizer_row state row = step_by (economizer_verdict state row) state row
