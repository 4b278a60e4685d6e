-- The two hysteresis blocks. With uLow ≤ uHigh they part only at a NaN: the model's falls, the one of cdl_recurrences.rs keeps its output.
use Rattle.std.specs.Prelude.{Bool, false, not, ◌&&◌, ◌||◌, Float}
use Rattle.std.specs.Float.Ieee.{lt, le}
use Rattle.reals.specs.declared.hysteresis.HysteresisState.{HysteresisState}
use Rattle.reals.specs.declared.kept_hysteresis.KeptHysteresisState.{KeptHysteresisState}
use Rattle.reals.specs.Constants.{plus_zero, minus_one}

-- CDL.Reals.Hysteresis with uLow = −1 and uHigh = 0, the economizer's: y = not pre(y) and u > uHigh or pre(y) and u >= uLow
unfoldable pub hysteresis_new : HysteresisState
hysteresis_new = record { previous = false }

unfoldable pub hysteresis_output : HysteresisState → Float → Bool
hysteresis_output s u = (not s.previous && lt plus_zero u) || (s.previous && le minus_one u)

unfoldable pub hysteresis_update : HysteresisState → Float → HysteresisState
hysteresis_update s u = record { previous = hysteresis_output s u }

-- `hysteresis` of cdl_recurrences.rs: true above u_high, else false below u_low, else as before
unfoldable pub kept_hysteresis_new : Float → Float → Bool → KeptHysteresisState
kept_hysteresis_new low high start = record { u_low = low; u_high = high; previous = start }

unfoldable pub kept_hysteresis_output : KeptHysteresisState → Float → Bool
kept_hysteresis_output s u = lt s.u_high u || (not (lt u s.u_low) && s.previous)

unfoldable pub kept_hysteresis_update : KeptHysteresisState → Float → KeptHysteresisState
kept_hysteresis_update s u = record { u_low = s.u_low; u_high = s.u_high; previous = kept_hysteresis_output s u }
