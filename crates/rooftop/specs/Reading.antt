-- The joined sequence read off the accepted joined rows, with no state (change request 6). A past holds them up to here, the newest first.
use Rattle.std.specs.Prelude.{ℕ, Bool, false, not, ◌&&◌, eqb, List, [], ◌∷◌, map, Float, ℤ, pos}
use Rattle.reals.specs.Constants.{plus_zero}
use Rattle.refusals.specs.Refusals.{Verdict}
use Rattle.economizer_controller.specs.declared.types.EconomizerRow.{EconomizerRow}
use Rattle.economizer_controller.specs.Reading.{EconomizerReading, economizer_reading}
use Rattle.freeze_protection.specs.declared.types.FreezeRow.{FreezeRow}
use Rattle.freeze_protection.specs.Reading.{stage_from}
use Rattle.relief_fan_group.specs.declared.types.ReliefRow.{ReliefRow}
use Rattle.relief_fan_group.specs.Reading.{ReliefReading, relief_reading, verdict_windowed}
use Rattle.rooftop.specs.declared.types.RooftopRow.{RooftopRow}
use Rattle.rooftop.specs.Wiring.{economizer_row_of, freeze_row_of, relief_row_of}
use Rattle.rooftop.specs.Verdict.{numbers_finite}

abbrev pub Past : Type 0
Past = List RooftopRow

abbrev pub time_of_row : RooftopRow → Float
time_of_row row = row.time

abbrev pub pressure_of_row : RooftopRow → Float
pressure_of_row row = row.pressure

abbrev pub alarm_of_row : RooftopRow → List ℤ
alarm_of_row row = row.alarm

-- the refusal, if any, that fits a row after these accepted rows: the list alone tells it, by refusals 1, 2, 3, 11 and 4. The 1 that comes last is not asked: what the
-- economizer hands on is always finite (proofs/OwnEntries.antt)
unfoldable pub verdict_of : Past → RooftopRow → Verdict
verdict_of = verdict_windowed time_of_row alarm_of_row numbers_finite

-- freeze protection's row of a joined row's own fields, with 0 for what the economizer hands on, of which no stage asks
abbrev pub freeze_fields : RooftopRow → FreezeRow
freeze_fields x =
    freeze_row_of x
    (record {
      outdoor_damper_min_limit = plus_zero;
      minimum_outdoor_air_loop_enabled = false;
      outdoor_damper_command = plus_zero;
      return_damper_command = plus_zero;
    })

-- what is told at a joined row: the freeze stage; enable and both delays of the economizer; the mean and both pulses of the relief fan group
pub record RooftopReading : Type 0 where
  pub stage : ℕ
  pub economizer : EconomizerReading
  pub relief : ReliefReading

-- from the start that keeps_hour names: stage 2 of freeze protection keeps to its hour, or not
module _ (keeps_hour : Bool) where
  -- the freeze stage: freeze protection's reading of the joined rows' own fields; 0 before row 0
  abbrev pub stage_of : Past → ℕ
  stage_of h = stage_from keeps_hour (map freeze_fields h)

  -- the rows that the economizer is handed: each with the stage of the row before it
  abbrev pub economizer_rows : Past → List EconomizerRow
  economizer_rows [] = []
  economizer_rows (x ∷ h) = economizer_row_of x (pos (stage_of h)) ∷ economizer_rows h

  -- the rows that the relief fan group is handed: each with its own fan status for both supply flags, or none at stage 3
  abbrev pub relief_rows : Past → List ReliefRow
  relief_rows [] = []
  relief_rows (x ∷ h) = relief_row_of x (x.supply_fan_status && not (eqb (stage_of (x ∷ h)) 3)) ∷ relief_rows h

  -- of each sequence its own reading
  unfoldable pub rooftop_reading : Past → RooftopReading
  rooftop_reading h = record { stage = stage_of h; economizer = economizer_reading (economizer_rows h); relief = relief_reading (relief_rows h) }
