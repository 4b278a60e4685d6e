-- CDL.Logical.TrueDelay with delayOnInit=false: y becomes true when u has been true for the delay, and at once if u is true on the first row.
-- `TrueDelayState` of economizer_controller.rs, which measures the delay by the gaps between rows, added in order.
use Rattle.std.specs.Prelude.{Bool, false, ◌&&◌, ◌||◌, Float, None, Some, is_none}
use Rattle.std.specs.Float.{binary64}
use Rattle.std.specs.Float.Ieee.{add, le}
use Rattle.reals.specs.Constants.{plus_zero}
use Rattle.reals.specs.Seen.{seen_gap}
use Rattle.reals.specs.Switch.{switch}
use Rattle.logical.specs.declared.true_delay.TrueDelayState.{TrueDelayState}

-- no row seen; previous_time is never seen where the Rust has initialized = false
unfoldable pub true_delay_new : TrueDelayState
true_delay_new = record { previous_time = None; previous_input = false; held_output = false; timer = plus_zero }

-- the gaps since u became true, added in order; 0 where u is false or has just risen
unfoldable pub true_delay_next_timer : TrueDelayState → Float → Bool → Float
true_delay_next_timer s t u = switch (u && s.previous_input) (add binary64 s.timer (seen_gap s.previous_time t)) plus_zero

-- u is true, and this is the first row, or the output was true at the row before, or the timer has reached the delay
unfoldable pub true_delay_output : TrueDelayState → Float → Bool → Float → Bool
true_delay_output s t u delay = u && (is_none s.previous_time || s.held_output || le delay (true_delay_next_timer s t u))

-- time, input, output and timer are kept. Where the output is true the Rust puts the delay for the timer, which is not read again before u falls.
unfoldable pub true_delay_update : TrueDelayState → Float → Bool → Float → TrueDelayState
true_delay_update s t u delay =
    let y = true_delay_output s t u delay in
    record { previous_time = Some t; previous_input = u; held_output = y; timer = switch y delay (true_delay_next_timer s t u) }
