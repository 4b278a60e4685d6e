-- CDL.Logical.Timer: `TimerState` of freeze_protection.rs, with its elapsed time y. A pass is held until u falls, whatever the time does.
use Rattle.std.specs.Prelude.{Bool, true, false, not, ◌&&◌, Float, None}
use Rattle.std.specs.Float.Ieee.{le}
use Rattle.reals.specs.Constants.{plus_zero}
use Rattle.logical.specs.declared.held_timer.HeldTimerState.{HeldTimerState}
use Rattle.logical.specs.declared.timer.TimerOutput.{TimerOutput}
use Rattle.reals.specs.Switch.{switch}
use Rattle.logical.specs.Timer.{entry_time, elapsed_time}

-- initial equation: pre(passed) = t <= 0, where the model's t is the threshold
unfoldable pub held_timer_new : Float → HeldTimerState
held_timer_new threshold = record { threshold = threshold; entry_time = None; prev_u = false; passed = le threshold plus_zero }

-- when u rises, passed = threshold <= 0; elsewhen u and the elapsed time is the threshold or more, true; elsewhen u falls, false; else it is kept. (The
-- model tests time >= t + entryTime, the Rust the difference of the two times.) Beside it the elapsed time
unfoldable pub held_timer_output : HeldTimerState → Float → Bool → TimerOutput
held_timer_output s t u =
    let rises = u && not s.prev_u in
    let elapsed = elapsed_time s.entry_time s.prev_u t u in
    let reaches = u && le s.threshold elapsed in
    let falls = not u && s.prev_u in
    record { passed = switch rises (le s.threshold plus_zero) (switch reaches true (switch falls false s.passed)); elapsed = elapsed }

-- The entry time and the mark of this row; u becomes pre(u). The Rust's prev_t is left out: only whether it is Some is read, where prev_u is
-- true, and it then is in every state that a run reaches.
unfoldable pub held_timer_update : HeldTimerState → Float → Bool → HeldTimerState
held_timer_update s t u = record { threshold = s.threshold; entry_time = entry_time s.entry_time s.prev_u t u; prev_u = u; passed = (held_timer_output s t u).passed }
