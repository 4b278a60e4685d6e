-- The relief pulses read off the past, with no state. A past holds the accepted rows up to here, the newest first.
use Rattle.std.specs.Prelude.{Bool, List, [], ◌∷◌, map, Float, ℤ}
use Rattle.std.specs.Float.{binary64}
use Rattle.std.specs.Float.Ieee.{add, sub, lt}
use Rattle.reals.specs.Constants.{plus_zero}
use Rattle.refusals.specs.Refusals.{Verdict}
use Rattle.past.specs.Past.{since}
use Rattle.past.specs.Turns.{pulse}
use Rattle.past.specs.Acceptance.{verdict_after}
use Rattle.moving_average.specs.State.{moving_average_output}
use Rattle.moving_average.specs.Past.{window_is_full, moving_average_of}
use Rattle.relief_fan_group.specs.declared.types.ReliefRow.{ReliefRow}
use Rattle.relief_fan_group.specs.Constants.{min_speed, stage_up_level, hys, stage_up_time, stage_down_time}
use Rattle.relief_fan_group.specs.Verdict.{numbers_finite, after_judged}
use Rattle.relief_fan_group.specs.Signals.{pressure_loop}

abbrev pub Past : Type 0
Past = List ReliefRow

abbrev pub time_of_row : ReliefRow → Float
time_of_row row = row.time

abbrev pub pressure_of_row : ReliefRow → Float
pressure_of_row row = row.pressure

abbrev pub alarm_of_row : ReliefRow → List ℤ
alarm_of_row row = row.alarm

-- the mean here, by its block's definition over the rows up to here; before row 0 there is none, and no reading asks for it
unfoldable pub mean : Past → Float
mean [] = plus_zero
mean (x ∷ h) = moving_average_output (moving_average_of time_of_row pressure_of_row h) x.time x.pressure

-- the limited pressure loop here: the mean divided by 12, less 1, limited to 0 to 1 by `f64::clamp`, a NaN staying NaN
abbrev pub loop_of : Past → Float
loop_of h = pressure_loop (mean h)

-- a request up is read as warm is: above 0.1 + 0.15, later rows above that less 0.005. A NaN is above nothing
abbrev pub up_request : Past → Bool
up_request h = since (λ s. lt (sub binary64 stage_up_level hys) (loop_of s)) (λ s. lt stage_up_level (loop_of s)) h

-- a request down is read as cold is: below 0.1, later rows below 0.1 + 0.005. A NaN is below nothing
abbrev pub down_request : Past → Bool
down_request h = since (λ s. lt (loop_of s) (add binary64 min_speed hys)) (λ s. lt (loop_of s) min_speed) h

-- the pulses: the unbroken run, up to here, of rows with a request that way and no pulse that way on the row before has lasted 420 s (up) or 300 s (down)
abbrev pub up_pulse : Past → Bool
up_pulse h = pulse time_of_row stage_up_time up_request h

abbrev pub down_pulse : Past → Bool
down_pulse h = pulse time_of_row stage_down_time down_request h

-- what is read at a row: the mean, and both pulses
pub record ReliefReading : Type 0 where
  pub mean : Float
  pub up : Bool
  pub down : Bool

unfoldable pub relief_reading : Past → ReliefReading
relief_reading h = record { mean = mean h; up = up_pulse h; down = down_pulse h }

-- the refusal that fits a row after these accepted rows, of any sequence that has this window: the list alone tells it, refusal 11 by the row's own alarms, 4 by the
-- different times of the rows before
module _ {R : Type 0} (time : R → Float) (alarm : R → List ℤ) (all_finite : R → Bool) where
  abbrev pub verdict_windowed : List R → R → Verdict
  verdict_windowed h x = after_judged (verdict_after time all_finite h x) (alarm x) (window_is_full (map time h) (time x))

-- and of the relief fan group
unfoldable pub verdict_of : Past → ReliefRow → Verdict
verdict_of = verdict_windowed time_of_row alarm_of_row numbers_finite
