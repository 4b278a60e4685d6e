-- The second pass: Economizers.Subsequences.Enable with use_enthalpy = false, as `enable_trace` and economizer_enable.rs have it. The cutoff and the damper
-- limits are arguments. The Rust starts the economizer when it is warm outside, Guideline 36's high limit stops it then; docs/DIFFERENCES.md has more.
use Rattle.std.specs.Prelude.{Bool, not, ◌&&◌, Float, ℤ}
use Rattle.std.specs.Float.{binary64}
use Rattle.std.specs.Float.Ieee.{sub}
use Rattle.reals.specs.Hysteresis.{hysteresis_new, hysteresis_output, hysteresis_update}
use Rattle.reals.specs.Switch.{switch}
use Rattle.logical.specs.TrueFalseHold.{true_false_hold_new, true_false_hold_output, true_false_hold_update}
use Rattle.logical.specs.TrueDelay.{true_delay_new, true_delay_output, true_delay_update}
use Rattle.economizer_controller.specs.declared.types.DamperLimits.{DamperLimits}
use Rattle.economizer_controller.specs.declared.types.EnableSignals.{EnableSignals}
use Rattle.economizer_controller.specs.declared.types.EnableLimits.{EnableLimits}
use Rattle.economizer_controller.specs.declared.enable.EnableState.{EnableState}
use Rattle.economizer_controller.specs.Constants.{hold_duration, outdoor_delay, return_delay, no_freeze_stage}
use Rattle.economizer_controller.specs.Integers.{integers_equal}

-- the blocks before any row; the hold keeps each value for 600 s (truFalHol)
unfoldable pub enable_new : EnableState
enable_new = record { hysteresis = hysteresis_new; hold = true_false_hold_new hold_duration hold_duration; outdoor_delay = true_delay_new; return_delay = true_delay_new }

-- hysOutTem on the outdoor temperature less the cutoff, held by truFalHol; enabled where that is on, the supply fan is on and the freeze protection stage is 0;
-- and two delays of 'not enabled', the outdoor damper's (disDel) and the return damper's (retDamFulOpeTim)
unfoldable pub enable_output : EnableState → Float → Float → Float → Bool → ℤ → EnableSignals
enable_output s t temperature cutoff fan stage =
    let delta = sub binary64 temperature cutoff in
    let condition = hysteresis_output s.hysteresis delta in
    let held = true_false_hold_output s.hold t condition in
    let enabled = held && fan && integers_equal stage no_freeze_stage in
    record {
      dry_bulb_delta = delta;
      outdoor_air_condition = condition;
      held_condition = held;
      enabled = enabled;
      outdoor_delay_done = true_delay_output s.outdoor_delay t (not enabled) outdoor_delay;
      return_delay_done = true_delay_output s.return_delay t (not enabled) return_delay;
    }

-- every block one row further, each with the input that its output was worked from
unfoldable pub enable_update : EnableState → Float → EnableSignals → EnableState
enable_update s t signals = record {
  hysteresis = hysteresis_update s.hysteresis signals.dry_bulb_delta;
  hold = true_false_hold_update s.hold t signals.outdoor_air_condition;
  outdoor_delay = true_delay_update s.outdoor_delay t (not signals.enabled) outdoor_delay;
  return_delay = true_delay_update s.return_delay t (not signals.enabled) return_delay;
}

-- Not enabled, the outdoor damper's maximum falls to its minimum once its delay is done (outDamSwitch). Until the return damper's delay is done, both limits of
-- the return damper are its physical maximum (maxRetDamSwitch, minRetDamSwitch); then its minimum is its maximum (retDamSwitch). Enabled, the limits stay.
unfoldable pub enable_limits : EnableSignals → DamperLimits → EnableLimits
enable_limits signals limits =
    let disabled = not signals.enabled in
    let force = disabled && not signals.return_delay_done in
    record {
      outdoor_damper_max_limit = switch (disabled && signals.outdoor_delay_done) limits.outdoor_damper_min_limit limits.outdoor_damper_max_limit;
      return_damper_min_limit =
          switch force limits.return_damper_physical_max_limit (switch disabled limits.return_damper_max_limit limits.return_damper_min_limit);
      return_damper_max_limit = switch force limits.return_damper_physical_max_limit limits.return_damper_max_limit;
    }
