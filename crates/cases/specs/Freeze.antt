-- Freeze rows as the cases are written, 'time: supply kelvin; mixed 300.15, no reset unless said', and what a run of them from a fresh state gives.
use Rattle.std.specs.Prelude.{ℕ, Bool, true, false, List, map}
use Rattle.std.specs.Float.{binary64}
use Rattle.std.specs.Float.Ieee.{round}
use Rattle.logical.specs.Run.{run}
use Rattle.past.specs.Whole.{Told}
use Rattle.freeze_protection.specs.declared.types.FreezeRow.{FreezeRow}
use Rattle.freeze_protection.specs.declared.types.FreezeState.{FreezeState}
use Rattle.freeze_protection.specs.declared.types.FreezeSignals.{FreezeSignals}
use Rattle.freeze_protection.specs.Signals.{freeze_signals}
use Rattle.freeze_protection.specs.Step.{freeze_fresh}
use Rattle.freeze_protection.specs.Told.{freeze_told, freeze_returned}
use Rattle.cases.specs.Words.{kelvin, Number, number}

-- what a case says of a row: its time in seconds or in parts of a second, its supply air in hundredths of a kelvin, its reset
pub record Written : Type 0 where
  pub time : ℕ
  pub supply : ℕ
  pub reset : Bool

abbrev pub at : ℕ → ℕ → Written
at time supply = record { time = time; supply = supply; reset = false }

abbrev pub reset_at : ℕ → ℕ → Written
reset_at time supply = record { time = time; supply = supply; reset = true }

-- the fields that the cases leave open
pub record FreezeOthers : Type 0 where
  pub outdoor_damper_min_position : Number
  pub outdoor_damper : Number
  pub heating_coil : Number
  pub minimum_outdoor_damper : Number
  pub return_damper : Number
  pub supply_fan_status : Bool
  pub supply_fan_speed : Number
  pub cooling_coil : Number

-- `others` has the open fields of the row at each time
module _ (others : ℕ → FreezeOthers) where
  -- a row whose time is in parts of a second, so many to a second
  abbrev pub freeze_row_in : ℕ → Written → FreezeRow
  freeze_row_in parts w =
      let o = others w.time in
      record {
        time = round binary64 false w.time parts;
        outdoor_damper_min_position = number o.outdoor_damper_min_position;
        outdoor_damper = number o.outdoor_damper;
        heating_coil = number o.heating_coil;
        minimum_outdoor_damper = number o.minimum_outdoor_damper;
        return_damper = number o.return_damper;
        supply_air_temperature = kelvin w.supply;
        software_reset = w.reset;
        supply_fan_status = o.supply_fan_status;
        supply_fan_speed = number o.supply_fan_speed;
        cooling_coil = number o.cooling_coil;
        mixed_air_temperature = kelvin 30015;
      }

  -- the stage, or the refusal, at each row of a run from a start, and a signal
  module _ (start : FreezeState) (parts : ℕ) where
    unfoldable pub stages_from : List Written → List (Told ℕ)
    stages_from rows = run freeze_told freeze_returned start (map (freeze_row_in parts) rows)

    unfoldable pub signalled_from : (FreezeSignals → Bool) → List Written → List Bool
    signalled_from f rows = run (λ state row. f (freeze_signals state row)) freeze_returned start (map (freeze_row_in parts) rows)

  -- the same from a fresh state, with times in seconds
  abbrev pub stages : List Written → List (Told ℕ)
  stages = stages_from freeze_fresh 1

  abbrev pub signalled : (FreezeSignals → Bool) → List Written → List Bool
  signalled = signalled_from freeze_fresh 1

-- cold at 277.55 (lesThr)
abbrev pub is_cold : FreezeSignals → Bool
is_cold y = y.calls.les_thr_y

-- the stage 3 call (or8)
abbrev pub calls_stage3 : FreezeSignals → Bool
calls_stage3 y = y.or8_y

-- the hold of stage 2 (holSta2), and its one-hour timer's pass (tim5)
abbrev pub is_held : FreezeSignals → Bool
is_held y = y.calls.hol_sta2_y

abbrev pub hour_passed : FreezeSignals → Bool
hour_passed y = y.tim5.passed
