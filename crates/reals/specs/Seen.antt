-- A time that may not have been seen yet: `Option<f64>` of the Rust.
use Rattle.std.specs.Prelude.{Bool, false, Float, Option, None, Some}
use Rattle.std.specs.Float.{binary64}
use Rattle.std.specs.Float.Ieee.{sub, lt}
use Rattle.reals.specs.Constants.{plus_zero}
use Rattle.reals.specs.Order.{greater}

-- the time seen, if any, is above t
unfoldable pub seen_above : Option Float → Float → Bool
seen_above None t = false
seen_above (Some p) t = lt t p

-- t less the time seen: `map_or(0.0, |p| t - p)`
unfoldable pub seen_elapsed : Option Float → Float → Float
seen_elapsed None t = plus_zero
seen_elapsed (Some p) t = sub binary64 t p

-- t less the time seen, not below 0: `map_or(0.0, |p| (t - p).max(0.0))`
unfoldable pub seen_gap : Option Float → Float → Float
seen_gap None t = plus_zero
seen_gap (Some p) t = greater (sub binary64 t p) plus_zero
