-- The words of the insurer's questions about freeze protection, over all lists of rows: l is the list of all rows so far, refused ones too, the newest first.
use Rattle.std.specs.Prelude.{ℕ, Bool, true, false, not, ◌&&◌, ◌||◌, List, [], ◌∷◌, ◌++◌, Float, Ok, Err}
use Rattle.std.specs.Float.{binary64}
use Rattle.std.specs.Float.Ieee.{add, le, round}
use Rattle.reals.specs.Constants.{plus_zero, whole}
use Rattle.reals.specs.Sign.{is_time}
use Rattle.refusals.specs.Refusals.{Verdict}
use Rattle.past.specs.Past.{latched}
use Rattle.past.specs.Whole.{accepted}
use Rattle.freeze_protection.specs.declared.types.FreezeRow.{FreezeRow}
use Rattle.freeze_protection.specs.Constants.{cold_stage2, band}
use Rattle.freeze_protection.specs.Reading.{Past, reset_row, holding, stage, stage3_call, verdict_of}

abbrev pub is_accepted : Verdict → Bool
is_accepted (Ok tt) = true
is_accepted (Err r) = false

-- a row is accepted after the rows l
abbrev pub taken : FreezeRow → List FreezeRow → Bool
taken x l = is_accepted (verdict_of (accepted verdict_of l) x)

-- a stage 3 trip stands, the stage, and stage 2's hold, after the rows l
unfoldable pub tripped : List FreezeRow → Bool
tripped l = latched stage3_call reset_row (accepted verdict_of l)

unfoldable pub stage_after : List FreezeRow → ℕ
stage_after l = stage (accepted verdict_of l)

unfoldable pub hold_after : List FreezeRow → Bool
hold_after l = holding (accepted verdict_of l)

-- the supply air is not below 276.45 K and its band of 0.25 K
abbrev pub mild : FreezeRow → Bool
mild x = le (add binary64 cold_stage2 band) x.supply_air_temperature

-- of the rows m after the rows l, the accepted ones are mild
abbrev pub mild_after : List FreezeRow → List FreezeRow → Bool
mild_after [] l = true
mild_after (x ∷ m) l = (not (taken x (m ++ l)) || mild x) && mild_after m l

-- ---- rows for the answers: seconds, hundredths of a kelvin
abbrev pub row_at : Float → ℕ → FreezeRow
row_at t supply = record {
  time = t;
  outdoor_damper_min_position = plus_zero;
  outdoor_damper = plus_zero;
  heating_coil = plus_zero;
  minimum_outdoor_damper = plus_zero;
  return_damper = plus_zero;
  supply_air_temperature = round binary64 false supply 100;
  software_reset = false;
  supply_fan_status = true;
  supply_fan_speed = plus_zero;
  cooling_coil = plus_zero;
  mixed_air_temperature = round binary64 false 30015 100;
}

-- F5: 276 K at 0 and 300, 278 K at 360 and 3900; the hold drops on the row at which its hour is due. The newest first
abbrev pub hour_dropped : List FreezeRow
hour_dropped = row_at (whole 3900) 27800 ∷ row_at (whole 360) 27800 ∷ row_at (whole 300) 27600 ∷ row_at (whole 0) 27600 ∷ []

-- rows of 278 K, one at each of these times, the newest first
abbrev pub rows_of278 : List Float → List FreezeRow
rows_of278 [] = []
rows_of278 (t ∷ ts) = row_at t 27800 ∷ rows_of278 ts

-- the newest of these times, or 3900 s, that of `hour_dropped`
abbrev pub newest_time : List Float → Float
newest_time [] = whole 3900
newest_time (t ∷ ts) = t

-- times from 3900 s on that never fall, the newest first
abbrev pub not_falling : List Float → Bool
not_falling [] = true
not_falling (t ∷ ts) = is_time t && (le (newest_time ts) t && not_falling ts)

-- the stage 3 call is true at each of the rows m after the past h
abbrev pub calling : Past → Past → Bool
calling [] h = true
calling (y ∷ m) h = stage3_call (y ∷ (m ++ h)) && calling m h
