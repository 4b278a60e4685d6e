-- Limiters (CDL.Reals.Limiter). For numbers and min ≤ max both give the point of min .. max that is nearest to x. They part at a NaN, in the
-- sign of a zero, and where min > max.
use Rattle.std.specs.Prelude.{Float}
use Rattle.std.specs.Float.Ieee.{lt}
use Rattle.reals.specs.Order.{greater, lesser}
use Rattle.reals.specs.Switch.{switch}

-- `f64::clamp` of the Rust standard library: raised to min where below it, then lowered to max where above. A NaN is neither, and stays.
-- Where min > max or a limit is a NaN, the Rust panics.
unfoldable pub limit : Float → Float → Float → Float
limit x min max = let raised = switch (lt x min) min x in switch (lt max raised) max raised

-- `clamp` of cdl_recurrences.rs: the greater of min and the lesser of value and max. So a NaN becomes max: `clamp(NaN, 0, 1)` is 1.
unfoldable pub clamp : Float → Float → Float → Float
clamp value min max = greater min (lesser value max)
