-- The timer that runs on as the code works it: the held timer that answers for it gives what is defined, whatever the state. Assumes nothing.
use Rattle.std.specs.Prelude.{Option}
use mathlib.Core.Path.{◌≡◌, refl}
use mathlib.Core.Bool.{Bool, true, false}
use lib.Ieee.{Float}
use Rattle.reals.specs.Switch.{switch}
use Rattle.logical.specs.declared.held_timer.HeldTimerState.{HeldTimerState}
use Rattle.logical.specs.declared.hour_timer.HourTimerState.{HourTimerState}
use Rattle.logical.specs.Timer.{entry_time, elapsed_time}
use Rattle.logical.specs.HeldTimer.{held_timer_output, held_timer_update}
use Rattle.logical.specs.HourTimer.{hour_timer, timer_in, hour_timer_running, run_on_timer_output, run_on_timer_update}

-- the held timer with these fields
abbrev with_fields : Float → Option Float → Bool → Bool → HeldTimerState
with_fields n entry pre_u passed = record { threshold = n; entry_time = entry; prev_u = pre_u; passed = passed }

module _ (t : Float) where
  output_by : (n : Float) (e : Option Float) (pre_u p u : Bool)
      → held_timer_output (hour_timer_running (hour_timer true (with_fields n e pre_u p)) u) t true ≡ run_on_timer_output (with_fields n e pre_u p) t u
  unfolding hour_timer_running held_timer_output run_on_timer_output elapsed_time switch
  output_by n e true p true = refl
  output_by n e true p false = refl
  output_by n e false p true = refl
  output_by n e false p false = refl

  update_by : (n : Float) (e : Option Float) (pre_u p u : Bool)
      → let next = held_timer_update (hour_timer_running (hour_timer true (with_fields n e pre_u p)) u) t true in
      ◌≡◌ {A = HeldTimerState} (with_fields next.threshold next.entry_time u next.passed) (run_on_timer_update (with_fields n e pre_u p) t u)
  unfolding hour_timer_running held_timer_update run_on_timer_update held_timer_output run_on_timer_output entry_time elapsed_time switch
  update_by n e true p true = refl
  update_by n e true p false = refl
  update_by n e false p true = refl
  update_by n e false p false = refl

pub output_is : (s : HourTimerState) (t : Float) (u : Bool) → held_timer_output (hour_timer_running s u) t true ≡ run_on_timer_output (timer_in s) t u
unfolding hour_timer_running
output_is s t u = unfold hour_timer_running in output_by t s.threshold s.entry_time s.prev_u s.passed u

pub update_is : (s : HourTimerState) (t : Float) (u : Bool)
    → let next = held_timer_update (hour_timer_running s u) t true in
    ◌≡◌ {A = HeldTimerState} (with_fields next.threshold next.entry_time u next.passed) (run_on_timer_update (timer_in s) t u)
update_is s t u = unfold hour_timer_running in update_by t s.threshold s.entry_time s.prev_u s.passed u
