-- The timer of stage 2's hour, in either manner: CDL.Logical.Timer as freeze_protection.rs has it (the held timer), which stops when u falls; or one that runs on
-- (no block of the CDL), which counts from the last rise of u whatever u does since.
use Rattle.std.specs.Prelude.{Bool, true, not, ◌&&◌, ◌||◌, cond, Float, Some}
use Rattle.std.specs.Float.Ieee.{le}
use Rattle.reals.specs.Constants.{plus_zero}
use Rattle.reals.specs.Seen.{seen_elapsed}
use Rattle.reals.specs.Switch.{switch}
use Rattle.logical.specs.declared.held_timer.HeldTimerState.{HeldTimerState}
use Rattle.logical.specs.declared.hour_timer.HourTimerState.{HourTimerState}
use Rattle.logical.specs.declared.timer.TimerOutput.{TimerOutput}
use Rattle.logical.specs.HeldTimer.{held_timer_new, held_timer_output, held_timer_update}

-- ---- the timer that runs on; its fields are those of the held timer
-- when u rises, passed = threshold <= 0; elsewhen the elapsed time is the threshold or more, true; else it is kept. The elapsed time is that since the last rise; 0
-- where u has just risen, and before its first rise
unfoldable pub run_on_timer_output : HeldTimerState → Float → Bool → TimerOutput
run_on_timer_output s t u =
    let rises = u && not s.prev_u in
    let elapsed = switch rises plus_zero (seen_elapsed s.entry_time t) in
    record { passed = switch rises (le s.threshold plus_zero) (switch (le s.threshold elapsed) true s.passed); elapsed = elapsed }

-- the time of the last rise, and the mark of this row; u becomes pre(u)
unfoldable pub run_on_timer_update : HeldTimerState → Float → Bool → HeldTimerState
run_on_timer_update s t u = record {
  threshold = s.threshold;
  entry_time = cond (u && not s.prev_u) (Some t) s.entry_time;
  prev_u = u;
  passed = (run_on_timer_output s t u).passed;
}

-- ---- either manner
-- a timer with its manner, and the timer without it
abbrev pub hour_timer : Bool → HeldTimerState → HourTimerState
hour_timer runs_on s = record { threshold = s.threshold; entry_time = s.entry_time; prev_u = s.prev_u; passed = s.passed; runs_on = runs_on }

abbrev pub timer_in : HourTimerState → HeldTimerState
timer_in s = record { threshold = s.threshold; entry_time = s.entry_time; prev_u = s.prev_u; passed = s.passed }

unfoldable pub hour_timer_new : Float → Bool → HourTimerState
hour_timer_new threshold runs_on = hour_timer runs_on (held_timer_new threshold)

unfoldable pub hour_timer_output : HourTimerState → Float → Bool → TimerOutput
hour_timer_output s t u = cond s.runs_on (run_on_timer_output (timer_in s) t u) (held_timer_output (timer_in s) t u)

unfoldable pub hour_timer_update : HourTimerState → Float → Bool → HourTimerState
hour_timer_update s t u = hour_timer s.runs_on (cond s.runs_on (run_on_timer_update (timer_in s) t u) (held_timer_update (timer_in s) t u))

-- how the code works the one that runs on: a held timer that is given an input which stays true and rises where u does
unfoldable pub hour_timer_running : HourTimerState → Bool → HeldTimerState
hour_timer_running s u = record {
  threshold = s.threshold;
  entry_time = s.entry_time;
  prev_u = s.prev_u || not u;
  passed = s.passed;
}
