-- How long until each timer passes, for a display; and the timers of a row as a display shows them, read off the past.
use Rattle.std.specs.Prelude.{Bool, not, ◌&&◌, List, [], ◌∷◌, drop, Float}
use Rattle.std.specs.Float.{binary64}
use Rattle.std.specs.Float.Ieee.{add, lt}
use Rattle.logical.specs.declared.timer.TimerOutput.{TimerOutput}
use Rattle.logical.specs.Timer.{timer_output_left}
use Rattle.past.specs.Past.{since}
use Rattle.past.specs.Runs.{present_timer}
use Rattle.past.specs.Whole.{Told, told_by}
use Rattle.moving_average.specs.State.{moving_average_is_full}
use Rattle.relief_fan_group.specs.declared.types.ReliefRow.{ReliefRow}
use Rattle.relief_fan_group.specs.declared.types.ReliefBlocks.{ReliefBlocks}
use Rattle.relief_fan_group.specs.declared.types.ReliefState.{ReliefState}
use Rattle.relief_fan_group.specs.declared.types.ReliefSignals.{ReliefSignals}
use Rattle.relief_fan_group.specs.declared.types.ReliefLeft.{ReliefLeft}
use Rattle.relief_fan_group.specs.Constants.{damper_shut, hys, damper_shut_time, stage_up_time, stage_down_time}
use Rattle.relief_fan_group.specs.Verdict.{relief_verdict}
use Rattle.relief_fan_group.specs.Step.{signals_at}
use Rattle.relief_fan_group.specs.Reading.{Past, time_of_row, loop_of, up_request, down_request, up_pulse, down_pulse}

-- of each timer, its threshold less its elapsed time, not below 0, and 0 once it has passed
unfoldable pub relief_left : ReliefBlocks → ReliefSignals → ReliefLeft
relief_left blocks signals =
    record {
      tim = timer_output_left signals.dampers.tim blocks.tim.threshold;
      up_tim = timer_output_left signals.up.up_tim blocks.up_tim.threshold;
      dow_tim = timer_output_left signals.down.dow_tim blocks.dow_tim.threshold;
    }

-- what a display shows of the timers: the answers of tim, upTim and dowTim, and what is left on each
pub record Timers : Type 0 where
  pub answers : List TimerOutput
  pub left : ReliefLeft

-- those of a row with these signals, which was handed to these blocks
abbrev pub timers_of : ReliefBlocks → ReliefSignals → Timers
timers_of blocks signals = record { answers = signals.dampers.tim ∷ signals.up.up_tim ∷ signals.down.dow_tim ∷ []; left = relief_left blocks signals }

-- of a row handed to a state: its refusal, or its timers
abbrev pub timers_told : ReliefState → ReliefRow → Told Timers
timers_told state row = told_by (relief_verdict state.blocks row (moving_average_is_full state.window row.time)) (timers_of state.blocks (signals_at state row))

-- ---- the same, read off the past
-- the loop asks for the dampers of stage zero to shut, read as cold is: below 0.005, later rows below 0.005 + 0.005
abbrev pub shut_request : Past → Bool
shut_request h = since (λ s. lt (loop_of s) (add binary64 damper_shut hys)) (λ s. lt (loop_of s) damper_shut) h

-- a request that way here, and no pulse that way on the row before
abbrev pub up_waits : Past → Bool
up_waits h = up_request h && not (up_pulse (drop 1 h))

abbrev pub down_waits : Past → Bool
down_waits h = down_request h && not (down_pulse (drop 1 h))

-- what a timer of n seconds on u shows, and what is left on it
abbrev pub timed_for : Float → (Past → Bool) → Past → TimerOutput
timed_for n u h = present_timer time_of_row n u h

abbrev pub left_for : Float → (Past → Bool) → Past → Float
left_for n u h = timer_output_left (timed_for n u h) n

-- the timers of the row here
unfoldable pub timers_read : Past → Timers
timers_read h =
    record {
      answers = timed_for damper_shut_time shut_request h ∷ timed_for stage_up_time up_waits h ∷ timed_for stage_down_time down_waits h ∷ [];
      left = record { tim = left_for damper_shut_time shut_request h; up_tim = left_for stage_up_time up_waits h; dow_tim = left_for stage_down_time down_waits h };
    }
