-- The constants of the moving average, as 64-bit patterns (CDL.Reals.MovingAverage with delta = 300 s; MovingAverageState of relief_fan_group.rs).
use Rattle.std.specs.Prelude.{ℕ, false, List, [], ◌∷◌, Float}
use Rattle.std.specs.Float.{binary64}
use Rattle.std.specs.Float.Ieee.{of_bits}
use Rattle.reals.specs.Constants.{Constant}

-- `DELTA`: the time horizon over which the input is averaged, in seconds
abbrev pub delta : Float
delta = of_bits binary64 4643985272004935680

-- `MIN_DELTA`: the shortest time that a mean is taken over, in seconds
abbrev pub min_delta : Float
min_delta = of_bits binary64 4532020583610935537

-- what is added to the time since the start while that is below delta, in seconds: so that row 0 does not divide by 0
abbrev pub start_offset : Float
start_offset = of_bits binary64 4562254508917369340

-- how many points the window has room for
abbrev pub capacity : ℕ
capacity = 512

-- the constants of this crate; proofs/Constants.antt has the one fact that each is the double nearest to its decimal
abbrev pub constants : List Constant
constants =
    record { value = delta; negative = false; numerator = 300; denominator = 1 }
    ∷ record { value = min_delta; negative = false; numerator = 1; denominator = 100000 }
    ∷ record { value = start_offset; negative = false; numerator = 1; denominator = 1000 }
    ∷ []
