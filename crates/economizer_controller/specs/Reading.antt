-- Enable and delays, read off the past without state. A past is the list of the accepted rows up to here, the
-- newest first; `since`, `hold` and `delayed` are the words of the crate `past`.
use Rattle.std.specs.Prelude.{Bool, false, not, ◌&&◌, List, [], ◌∷◌, Float}
use Rattle.std.specs.Float.{binary64}
use Rattle.std.specs.Float.Ieee.{sub, lt, le}
use Rattle.reals.specs.Constants.{plus_zero, minus_one}
use Rattle.refusals.specs.Refusals.{Verdict}
use Rattle.past.specs.Past.{since}
use Rattle.past.specs.Runs.{delayed}
use Rattle.past.specs.Turns.{hold}
use Rattle.past.specs.Acceptance.{verdict_after}
use Rattle.economizer_controller.specs.declared.types.EconomizerRow.{EconomizerRow}
use Rattle.economizer_controller.specs.Constants.{outdoor_air_cutoff, hold_duration, outdoor_delay, return_delay, no_freeze_stage}
use Rattle.economizer_controller.specs.Integers.{integers_equal}
use Rattle.economizer_controller.specs.Verdict.{numbers_finite}

abbrev pub Past : Type 0
Past = List EconomizerRow

abbrev pub time_of_row : EconomizerRow → Float
time_of_row row = row.time

-- the refusal, if any, that fits a row after these accepted rows: the list alone tells it
abbrev pub verdict_of : Past → EconomizerRow → Verdict
verdict_of = verdict_after time_of_row numbers_finite

-- ---- enable
-- the difference of E1: the outdoor temperature here less 294.15; before row 0 there is none, and no reading asks for it
abbrev pub difference : Past → Float
difference [] = plus_zero
difference (x ∷ h) = sub binary64 x.outdoor_air_temperature outdoor_air_cutoff

-- some row's difference is above 0, and every later one up to here is at least −1
unfoldable pub warm_outside : Past → Bool
warm_outside h = since (λ s. le minus_one (difference s)) (λ s. lt plus_zero (difference s)) h

-- the hold of that input, 600 s each way
unfoldable pub held : Past → Bool
held h = hold time_of_row hold_duration hold_duration warm_outside h

-- enabled: the hold is on, the fan is on and the stage is 0
unfoldable pub is_enabled : Past → Bool
is_enabled [] = false
is_enabled (x ∷ h) = held (x ∷ h) && x.supply_fan_status && integers_equal x.freeze_protection_stage no_freeze_stage

-- ---- delays
-- a row that is not enabled stands here; before row 0 there is no row
unfoldable pub not_enabled : Past → Bool
not_enabled [] = false
not_enabled (x ∷ h) = not (is_enabled (x ∷ h))

-- a delay of n seconds: its run, the unbroken run of rows not enabled up to here, is there, and it began on row 0 or the gap sum from its start reached n at some row of it
unfoldable pub delay_done : Float → Past → Bool
delay_done n h = delayed time_of_row n not_enabled h

-- ---- what demand 3 speaks of
pub record EconomizerReading : Type 0 where
  pub enabled : Bool
  pub outdoor_delayed : Bool
  pub return_delayed : Bool

-- read off a past
unfoldable pub economizer_reading : Past → EconomizerReading
economizer_reading h = record { enabled = is_enabled h; outdoor_delayed = delay_done outdoor_delay h; return_delayed = delay_done return_delay h }
