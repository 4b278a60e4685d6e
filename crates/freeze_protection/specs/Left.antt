-- How long until each timer passes, for a display; and the timers of a row as a display shows them, read off the past.
use Rattle.std.specs.Prelude.{Bool, false, List, [], ◌∷◌, Float}
use Rattle.logical.specs.declared.timer.TimerOutput.{TimerOutput}
use Rattle.logical.specs.Timer.{timer_output_left}
use Rattle.past.specs.Whole.{Told, told_by}
use Rattle.freeze_protection.specs.declared.types.FreezeRow.{FreezeRow}
use Rattle.freeze_protection.specs.declared.types.FreezeState.{FreezeState}
use Rattle.freeze_protection.specs.declared.types.FreezeSignals.{FreezeSignals}
use Rattle.freeze_protection.specs.declared.types.FreezeLeft.{FreezeLeft}
use Rattle.freeze_protection.specs.Constants.{cold_stage1, cold_stage2, cold_stage3, five_minutes, fifteen_minutes, hour}
use Rattle.freeze_protection.specs.Verdict.{freeze_verdict}
use Rattle.freeze_protection.specs.Signals.{freeze_signals}
use Rattle.freeze_protection.specs.Reading.{Past, cold, warm, timed_for, hour_from}

-- of each timer, its threshold less its elapsed time, not below 0, and 0 once it has passed
unfoldable pub freeze_left : FreezeState → FreezeSignals → FreezeLeft
freeze_left state signals =
    let calls = signals.calls in
    record {
      tim = timer_output_left calls.tim state.tim.threshold;
      tim1 = timer_output_left calls.tim1 state.tim1.threshold;
      tim2 = timer_output_left calls.tim2 state.tim2.threshold;
      tim3 = timer_output_left calls.tim3 state.tim3.threshold;
      tim4 = timer_output_left calls.tim4 state.tim4.threshold;
      tim5 = timer_output_left signals.tim5 state.tim5.threshold;
    }

-- what a display shows of the timers: the answers of tim to tim5 in order, and what is left on each
pub record Timers : Type 0 where
  pub answers : List TimerOutput
  pub left : FreezeLeft

-- those of a row with these signals, which was handed to this state
abbrev pub timers_of : FreezeState → FreezeSignals → Timers
timers_of state signals =
    let calls = signals.calls in
    record { answers = calls.tim ∷ calls.tim1 ∷ calls.tim2 ∷ calls.tim3 ∷ calls.tim4 ∷ signals.tim5 ∷ []; left = freeze_left state signals }

-- of a row handed to a state: its refusal, or its timers
abbrev pub timers_told : FreezeState → FreezeRow → Told Timers
timers_told state row = told_by (freeze_verdict state row) (timers_of state (freeze_signals state row))

-- ---- the same, read off the past
-- what is left until u has passed n
abbrev pub left_for : Float → (Past → Bool) → Past → Float
left_for n u h = timer_output_left (timed_for n u h) n

-- the timers of the row here, from either start
unfoldable pub timers_from : Bool → Past → Timers
timers_from keeps_hour h =
    record {
      answers =
          timed_for five_minutes (cold cold_stage1) h
          ∷ timed_for five_minutes warm h
          ∷ timed_for five_minutes (cold cold_stage2) h
          ∷ timed_for fifteen_minutes (cold cold_stage2) h
          ∷ timed_for five_minutes (cold cold_stage3) h
          ∷ hour_from keeps_hour h
          ∷ [];
      left = record {
        tim = left_for five_minutes (cold cold_stage1) h;
        tim1 = left_for five_minutes warm h;
        tim2 = left_for five_minutes (cold cold_stage2) h;
        tim3 = left_for fifteen_minutes (cold cold_stage2) h;
        tim4 = left_for five_minutes (cold cold_stage3) h;
        tim5 = timer_output_left (hour_from keeps_hour h) hour;
      };
    }

-- from the start of the Rust
abbrev pub timers_read : Past → Timers
timers_read = timers_from false
