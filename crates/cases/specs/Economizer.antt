-- What the cases E1 and E2 speak of.
use Rattle.std.specs.Prelude.{ℕ, ◌≡◌, Bool, true, false, not, cond, List, [], ◌∷◌, map, Float, ℤ, pos, Ok}
use Rattle.std.specs.Float.{binary64}
use Rattle.std.specs.Float.Ieee.{sub, lt, le}
use Rattle.logical.specs.Run.{run}
use Rattle.past.specs.Whole.{Told}
use Rattle.economizer_controller.specs.declared.types.EconomizerRow.{EconomizerRow}
use Rattle.economizer_controller.specs.declared.types.EconomizerState.{EconomizerState}
use Rattle.economizer_controller.specs.declared.types.EnableSignals.{EnableSignals}
use Rattle.economizer_controller.specs.Verdict.{economizer_verdict}
use Rattle.economizer_controller.specs.Step.{economizer_fresh, economizer_signals}
use Rattle.economizer_controller.specs.Reading.{EconomizerReading}
use Rattle.economizer_controller.specs.Told.{economizer_told, economizer_returned}
use Rattle.reals.specs.Constants.{whole}
use Rattle.cases.specs.Words.{kelvin, zero, minus_one, Number, number, taken}

-- the blocks of the enable pass at a row that is handed to a state
abbrev pub enable_at : EconomizerState → EconomizerRow → EnableSignals
enable_at state row = (economizer_signals state row).enable

-- ---- E1: the outdoor air condition (hysOutTem)
abbrev pub condition_at : EconomizerState → EconomizerRow → Bool
condition_at state row = (enable_at state row).outdoor_air_condition

-- the difference to 294.15
abbrev pub difference : EconomizerRow → Float
difference row = sub binary64 row.outdoor_air_temperature (kelvin 29415)

pub record RisesAndStays : Type 0 where
  -- it rises on row 0 where the difference is above 0
  pub first : (row : EconomizerRow) → condition_at economizer_fresh row ≡ lt zero (difference row)
  -- after any accepted row: where it was off it rises where the difference is above 0, where it was on it stays while the difference is at least −1
  pub later : (state : EconomizerState) (row next : EconomizerRow) → economizer_verdict state row ≡ Ok tt
      → condition_at (economizer_returned state row) next ≡ cond (condition_at state row) (le minus_one (difference next)) (lt zero (difference next))

-- ---- E2: the two delays, of 15 s and of 180 s, of 'not enabled'
-- both delays are so
pub record Delays (y : EnableSignals) (done : Bool) : Type 0 where
  pub outdoor : y.outdoor_delay_done ≡ done
  pub return : y.return_delay_done ≡ done

-- what E2 says of a row: its time in seconds and its freeze stage; outdoors it is 295 K, and the supply fan is on, so that it is enabled at stage 0 and not at 1
pub record Written : Type 0 where
  pub time : ℕ
  pub stage : ℕ

abbrev pub enabled_at : ℕ → Written
enabled_at time = record { time = time; stage = 0 }

abbrev pub disabled_at : ℕ → Written
disabled_at time = record { time = time; stage = 1 }

-- the fields that E2 leaves open
pub record EconomizerOthers : Type 0 where
  pub airflow : Number
  pub setpoint : Number
  pub signal : Number
  pub mode : ℤ

-- `others` has the open fields of the row at each time
module _ (others : ℕ → EconomizerOthers) where
  abbrev pub economizer_row_of : Written → EconomizerRow
  economizer_row_of w =
      let o = others w.time in
      record {
        time = whole w.time;
        outdoor_airflow_normalized = number o.airflow;
        minimum_outdoor_airflow_setpoint_normalized = number o.setpoint;
        supply_temperature_signal = number o.signal;
        outdoor_air_temperature = kelvin 29500;
        supply_fan_status = true;
        operation_mode = o.mode;
        freeze_protection_stage = pos w.stage;
      }

  -- enable and both delays, or the refusal, at each row of a run from a fresh state
  unfoldable pub enables : List Written → List (Told EconomizerReading)
  enables rows = run economizer_told economizer_returned economizer_fresh (map economizer_row_of rows)

abbrev pub reading : Bool → Bool → Bool → EconomizerReading
reading enabled outdoor return = record { enabled = enabled; outdoor_delayed = outdoor; return_delayed = return }

pub record StartsAndWaits : Type 0 where
  -- true on row 0 if its input is
  pub first : (row : EconomizerRow) → Delays (enable_at economizer_fresh row) (not (enable_at economizer_fresh row).enabled)
  -- later it starts false: on a row after an accepted one that was enabled
  pub later : (state : EconomizerState) (row next : EconomizerRow) → economizer_verdict state row ≡ Ok tt → (enable_at state row).enabled ≡ true
      → Delays (enable_at (economizer_returned state row) next) false
  -- not enabled from 60 on: outdoor 15 s (14 no, 15 yes), return 180 s (179 no, 180 yes)
  pub waits : (o : ℕ → EconomizerOthers)
      → enables o (enabled_at 0 ∷ disabled_at 60 ∷ disabled_at 74 ∷ disabled_at 75 ∷ disabled_at 239 ∷ disabled_at 240 ∷ [])
      ≡ taken (reading true false false ∷ reading false false false ∷ reading false false false ∷ reading false true false ∷ reading false true false ∷ reading false true true ∷ [])
