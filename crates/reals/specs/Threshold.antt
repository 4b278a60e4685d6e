-- Thresholds with hysteresis: CDL.Reals.GreaterThreshold and CDL.Reals.LessThreshold.
use Rattle.std.specs.Prelude.{Bool, false, not, ◌&&◌, ◌||◌, Float}
use Rattle.std.specs.Float.{binary64}
use Rattle.std.specs.Float.Ieee.{add, sub, lt}
use Rattle.reals.specs.declared.threshold.ThresholdMode.{ThresholdMode}
use Rattle.reals.specs.declared.threshold.ThresholdMode.TheVariants.{Greater, Less}
use Rattle.reals.specs.declared.threshold.ThresholdState.{ThresholdState}

-- y = not pre(y) and u > t or pre(y) and u > t − h; and turned round, y = not pre(y) and u < t or pre(y) and u < t + h
unfoldable pub crosses : ThresholdMode → Float → Float → Bool → Float → Bool
crosses Greater t h previous u = (not previous && lt t u) || (previous && lt (sub binary64 t h) u)
crosses Less t h previous u = (not previous && lt u t) || (previous && lt u (add binary64 t h))

-- a fresh block of each side: pre(y) starts false
unfoldable pub threshold_above : Float → Float → ThresholdState
threshold_above t h = record { threshold = t; hysteresis = h; previous = false; mode = Greater }

unfoldable pub threshold_below : Float → Float → ThresholdState
threshold_below t h = record { threshold = t; hysteresis = h; previous = false; mode = Less }

-- the output at this row
unfoldable pub threshold_output : ThresholdState → Float → Bool
threshold_output s u = crosses s.mode s.threshold s.hysteresis s.previous u

-- the block after this row: the output is the next row's pre(y)
unfoldable pub threshold_update : ThresholdState → Float → ThresholdState
threshold_update s u = record { threshold = s.threshold; hysteresis = s.hysteresis; previous = threshold_output s u; mode = s.mode }
