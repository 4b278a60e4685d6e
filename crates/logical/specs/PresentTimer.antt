-- The timer of relief_fan_group.rs, `TimerState`. It differs from CDL.Logical.Timer: a pass is not held, and the row on which u rises never passes.
use Rattle.std.specs.Prelude.{Bool, false, ◌&&◌, Float, None}
use Rattle.std.specs.Float.Ieee.{le}
use Rattle.logical.specs.declared.present_timer.PresentTimerState.{PresentTimerState}
use Rattle.logical.specs.declared.timer.TimerOutput.{TimerOutput}
use Rattle.logical.specs.Timer.{entry_time, elapsed_time}

-- no entry, and u false before the first row
unfoldable pub present_timer_new : Float → PresentTimerState
present_timer_new threshold = record { threshold = threshold; entry_time = None; prev_u = false }

-- passed: u is true here and at the row before, and the elapsed time here is the threshold or more. Beside it the elapsed time
unfoldable pub present_timer_output : PresentTimerState → Float → Bool → TimerOutput
present_timer_output s t u =
    let elapsed = elapsed_time s.entry_time s.prev_u t u in
    record { passed = u && s.prev_u && le s.threshold elapsed; elapsed = elapsed }

-- the entry time of this row; u becomes pre(u). The Rust's prev_t is left out, as in the held timer
unfoldable pub present_timer_update : PresentTimerState → Float → Bool → PresentTimerState
present_timer_update s t u = record { threshold = s.threshold; entry_time = entry_time s.entry_time s.prev_u t u; prev_u = u }
