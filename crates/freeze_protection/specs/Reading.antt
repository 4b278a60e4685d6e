-- The freeze stage read off the past, with no state. A past holds the accepted rows up to here, the newest first.
use Rattle.std.specs.Prelude.{ℕ, Bool, true, false, ◌||◌, cond, List, [], ◌∷◌, Float}
use Rattle.std.specs.Float.{binary64}
use Rattle.std.specs.Float.Ieee.{add, sub, lt}
use Rattle.reals.specs.Constants.{plus_zero}
use Rattle.logical.specs.declared.timer.TimerOutput.{TimerOutput}
use Rattle.refusals.specs.Refusals.{Verdict}
use Rattle.past.specs.Past.{since, rises, latched}
use Rattle.past.specs.Runs.{passed, held_timer, lapses, run_on_timer}
use Rattle.past.specs.Turns.{hold}
use Rattle.past.specs.Acceptance.{verdict_after}
use Rattle.freeze_protection.specs.declared.types.FreezeRow.{FreezeRow}
use Rattle.freeze_protection.specs.Constants.{cold_stage1, cold_stage2, cold_stage3, warm_level, band, five_minutes, fifteen_minutes, hour}
use Rattle.freeze_protection.specs.Verdict.{numbers_finite}

abbrev pub Past : Type 0
Past = List FreezeRow

abbrev pub time_of_row : FreezeRow → Float
time_of_row row = row.time

-- the supply air temperature of the row here; before row 0 there is none, and no reading asks for it
abbrev pub supply_of : Past → Float
supply_of [] = plus_zero
supply_of (x ∷ h) = x.supply_air_temperature

-- a reset row: its own fields say reset
abbrev pub reset_row : Past → Bool
reset_row [] = false
reset_row (x ∷ h) = x.software_reset

-- cold at L: some row is below L, and every row after it up to here is below L + 0.25
unfoldable pub cold : Float → Past → Bool
cold l h = since (λ s. lt (supply_of s) (add binary64 l band)) (λ s. lt (supply_of s) l) h

-- warm: some row is above 280.15, later ones above 280.15 − 0.25
unfoldable pub warm : Past → Bool
warm h = since (λ s. lt (sub binary64 warm_level band) (supply_of s)) (λ s. lt warm_level (supply_of s)) h

-- u passed n: the unbroken run of u up to here starts at s, and some row after s up to here has time minus time of s at least n
abbrev pub passed_for : Float → (Past → Bool) → Past → Bool
passed_for n u h = passed time_of_row n u h

-- what a timer of n seconds on u shows: whether u passed n, and the time here minus the time of the start of the unbroken run of u up to here, or 0
abbrev pub timed_for : Float → (Past → Bool) → Past → TimerOutput
timed_for n u h = held_timer time_of_row n u h

-- the hold of stage 2: 3600 s to fall and 0 to rise; its input is cold 276.45 passed 300
unfoldable pub holding : Past → Bool
holding h = hold time_of_row hour plus_zero (passed_for five_minutes (cold cold_stage2)) h

-- recovery: warm passed 300 turns true
unfoldable pub recovery : Past → Bool
recovery h = rises (passed_for five_minutes warm) h

-- stage 3 call: cold 276.45 passed 900 or cold 274.15 passed 300
unfoldable pub stage3_call : Past → Bool
stage3_call h = passed_for fifteen_minutes (cold cold_stage2) h || passed_for five_minutes (cold cold_stage3) h

-- end of hour, from the start of the Rust: the hold passed 3600 turns true
unfoldable pub end_of_hour : Past → Bool
end_of_hour h = rises (passed_for hour holding) h

-- end of hour, where stage 2 keeps to its hour (Guideline 36): of the rows after r, where the hold last came on, here is the first by which the hour is over, its time
-- less that of r being 3600 or more. Neither the temperature is asked, nor what the hold has done since r
unfoldable pub end_of_hour_kept : Past → Bool
end_of_hour_kept h = lapses time_of_row hour holding h

-- what a start fixes of the reading: its end-of-hour rows
module _ (ends : Past → Bool) where
  -- stage 1 call: cold 277.55 passed 300, or an end-of-hour row
  unfoldable pub stage1_call_by : Past → Bool
  stage1_call_by h = passed_for five_minutes (cold cold_stage1) h || ends h

  -- the stage: its call has risen at some row and no clearing row lies from there to here, ends counted. 3 (its call, cleared by a reset row) before 2 (its hold, cleared
  -- by the end of hour) before 1 (its call, cleared by a recovery), else 0
  unfoldable pub stage_by : Past → ℕ
  stage_by h = cond (latched stage3_call reset_row h) 3 (cond (latched holding ends h) 2 (cond (latched stage1_call_by recovery h) 1 0))

-- from the start of the Rust
abbrev pub stage1_call : Past → Bool
stage1_call = stage1_call_by end_of_hour

abbrev pub stage : Past → ℕ
stage = stage_by end_of_hour

-- where stage 2 keeps to its hour, which `kept` stands for
abbrev pub stage1_call_kept : Past → Bool
stage1_call_kept = stage1_call_by end_of_hour_kept

abbrev pub stage_kept : Past → ℕ
stage_kept = stage_by end_of_hour_kept

-- the end-of-hour rows, the stage, and what the hour's timer shows, from either start
abbrev pub end_of_hour_from : Bool → Past → Bool
end_of_hour_from true = end_of_hour_kept
end_of_hour_from false = end_of_hour

abbrev pub stage_from : Bool → Past → ℕ
stage_from keeps_hour = stage_by (end_of_hour_from keeps_hour)

abbrev pub hour_from : Bool → Past → TimerOutput
hour_from true h = run_on_timer time_of_row hour holding h
hour_from false h = timed_for hour holding h

-- the refusal, if any, that fits a row after these accepted rows: the list alone tells it
abbrev pub verdict_of : Past → FreezeRow → Verdict
verdict_of = verdict_after time_of_row numbers_finite
