-- The two PI loops, sampled by forward Euler: CDL.Reals.PID and CDL.Reals.PIDWithReset with controllerType PI and reverseActing = true. The models integrate
-- over continuous time, the Rust takes one step a row, of the gap before that row, so that row 0's error adds nothing; docs/DIFFERENCES.md has what follows.
use Rattle.std.specs.Prelude.{Bool, false, not, ◌&&◌, Float, None, Some}
use Rattle.std.specs.Float.{binary64}
use Rattle.std.specs.Float.Ieee.{add, sub, mul, div}
use Rattle.reals.specs.declared.pid.PidState.{PidState}
use Rattle.reals.specs.declared.pid_with_reset.PidWithResetState.{PidWithResetState}
use Rattle.reals.specs.Constants.{plus_zero, half, nine_tenths, one}
use Rattle.reals.specs.Limits.{limit, clamp}
use Rattle.reals.specs.Seen.{seen_gap}
use Rattle.reals.specs.Switch.{switch}

-- the models' parameters: gain k, integral time Ti, anti-windup time constant ratio Ni, output limits
abbrev pub k : Float
k = one

abbrev pub ti : Float
ti = half

abbrev pub ni : Float
ni = nine_tenths

abbrev pub y_min : Float
y_min = plus_zero

abbrev pub y_max : Float
y_max = one

-- the output before the limits: k times the error, and the integral
unfoldable pub pid_unlimited : Float → Float → Float
pid_unlimited error integral = add binary64 (mul binary64 k error) integral

-- the integral one step of dt seconds later: it grows by k / Ti · (error − (unlimited − limited) / (k · Ni)) · dt
unfoldable pub pid_integrated : Float → Float → Float → Float → Float → Float
pid_integrated integral error unlimited limited dt =
    let corrected = sub binary64 error (div binary64 (sub binary64 unlimited limited) (mul binary64 k ni)) in
    add binary64 integral (mul binary64 (mul binary64 (div binary64 k ti) corrected) dt)

-- ---- the freeze loop: limited by `f64::clamp`, so a NaN comes back (F7)
unfoldable pub pid_new : PidState
pid_new = record { integral = plus_zero; prev_t = None }

unfoldable pub pid_output : PidState → Float → Float → Float
pid_output s setpoint measurement = limit (pid_unlimited (sub binary64 setpoint measurement) s.integral) y_min y_max

unfoldable pub pid_update : PidState → Float → Float → Float → PidState
pid_update s t setpoint measurement =
    let error = sub binary64 setpoint measurement in
    let unlimited = pid_unlimited error s.integral in
    record { integral = pid_integrated s.integral error unlimited (limit unlimited y_min y_max) (seen_gap s.prev_t t); prev_t = Some t }

-- ---- the economizer's loop: limited by the Rust's own `clamp`
unfoldable pub pid_with_reset_new : PidWithResetState
pid_with_reset_new = record { integral = plus_zero; prev_t = None; previous_trigger = false }

unfoldable pub pid_with_reset_output : PidWithResetState → Float → Float → Float
pid_with_reset_output s setpoint measurement = clamp (pid_unlimited (sub binary64 setpoint measurement) s.integral) y_min y_max

-- where the trigger rises, the first row included (E3), the integral becomes y_reset − k · error, with y_reset = 0: the reset follows this row's output
unfoldable pub pid_with_reset_update : PidWithResetState → Float → Float → Float → Bool → PidWithResetState
pid_with_reset_update s t setpoint measurement trigger =
    let error = sub binary64 setpoint measurement in
    let unlimited = pid_unlimited error s.integral in
    record {
      integral =
          switch (trigger && not s.previous_trigger) (sub binary64 plus_zero (mul binary64 k error))
          (pid_integrated s.integral error unlimited (clamp unlimited y_min y_max) (seen_gap s.prev_t t));
      prev_t = Some t;
      previous_trigger = trigger;
    }
