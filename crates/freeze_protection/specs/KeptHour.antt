-- The words of the insurer's second question, how long stage 2 can stand, where stage 2 keeps to its hour (Guideline 36). l is the list of all rows so far, refused ones
-- too, the newest first.
use Rattle.std.specs.Prelude.{ℕ, Bool, List, Float}
use Rattle.past.specs.Runs.{within, since_rise}
use Rattle.past.specs.Whole.{accepted}
use Rattle.freeze_protection.specs.declared.types.FreezeRow.{FreezeRow}
use Rattle.freeze_protection.specs.Constants.{hour}
use Rattle.freeze_protection.specs.Reading.{Past, time_of_row, holding, stage_kept, verdict_of}

-- the hour runs: the hold came on at r, the nearest such row up to here, and no row after r up to here has time minus time of r 3600 or more
unfoldable pub hour_runs : Past → Bool
hour_runs h = within time_of_row hour holding h

-- the seconds since then: the time here minus that of r; 0 on r, and where the hold never came on
unfoldable pub since_hold : Past → Float
since_hold h = since_rise time_of_row holding h

-- the stage after the rows l
unfoldable pub stage_after_kept : List FreezeRow → ℕ
stage_after_kept l = stage_kept (accepted verdict_of l)
