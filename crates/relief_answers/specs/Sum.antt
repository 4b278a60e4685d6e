-- The sum of pressure times gap, in pascal seconds, in the order of the rows: `mu` of CDL.Reals.MovingAverage, which the mean is worked from. Row 0 has the gap 0.
use Rattle.std.specs.Prelude.{Bool, true, false, ◌&&◌, cond, List, [], ◌∷◌, map, reverse, ◌^◌, Float}
use Rattle.std.specs.Float.{binary64}
use Rattle.std.specs.Float.Ieee.{add, sub, mul, le, fits, of_bits}
use Rattle.reals.specs.Sign.{abs}
use Rattle.reals.specs.Constants.{plus_zero, Constant}
use Rattle.relief_fan_group.specs.declared.types.ReliefRow.{ReliefRow}
use Rattle.moving_average.specs.Window.{Point, point}
use Rattle.moving_average.specs.Past.{window_times}
use Rattle.relief_fan_group.specs.Reading.{Past, time_of_row}

-- the seconds since the row before, none at row 0
abbrev pub gap_after : ReliefRow → Past → Float
gap_after x [] = plus_zero
gap_after x (y ∷ h) = sub binary64 x.time y.time

-- the sum up to here
unfoldable pub pressure_sum : Past → Float
pressure_sum [] = plus_zero
pressure_sum (x ∷ h) = add binary64 (pressure_sum h) (mul binary64 x.pressure (gap_after x h))

-- the sum up to the last row at or before a time
unfoldable pub sum_up_to : Past → Float → Float
sum_up_to [] t = plus_zero
sum_up_to (x ∷ h) t = cond (le x.time t) (pressure_sum (x ∷ h)) (sum_up_to h t)

-- the window for a row at t, oldest first, after dropping: for each different time of the accepted rows before, from the last one at or before t − 300 on, that time
-- and the sum up to it
abbrev pub window_points : Past → Float → List Point
window_points h t = map (λ p. point p (sum_up_to h p)) (reverse (window_times (map time_of_row h) t))

-- 2 ^ 900 Pa, about 8 · 10 ^ 270
abbrev pub pressure_bound : Float
pressure_bound = of_bits binary64 8660422083433463808

-- 2 ^ 100 s, about 10 ^ 30
abbrev pub time_bound : Float
time_bound = of_bits binary64 5057542381537067008

-- each beside its number; proofs/Nearest.antt has the one fact
abbrev pub bounds : List Constant
bounds =
    record { value = pressure_bound; negative = false; numerator = 2 ^ 900; denominator = 1 }
    ∷ record { value = time_bound; negative = false; numerator = 2 ^ 100; denominator = 1 }
    ∷ []

-- pressure and time are within these bounds, and the time is a number of binary64, as that of a row in a program always is
abbrev pub modest : ReliefRow → Bool
modest x = fits binary64 x.time && (le (abs x.pressure) pressure_bound && le x.time time_bound)

-- every row of a past is
abbrev pub all_modest : Past → Bool
all_modest [] = true
all_modest (x ∷ h) = modest x && all_modest h
