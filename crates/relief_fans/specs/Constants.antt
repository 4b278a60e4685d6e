-- The fan constants of relief_fan_group.rs beyond 0 and 1, as 64-bit patterns.
use Rattle.std.specs.Prelude.{false, List, [], ◌∷◌, Float}
use Rattle.std.specs.Float.{binary64}
use Rattle.std.specs.Float.Ieee.{of_bits}
use Rattle.reals.specs.Constants.{Constant}

abbrev pub two : Float
two = of_bits binary64 4611686018427387904

abbrev pub three : Float
three = of_bits binary64 4613937818241073152

abbrev pub four : Float
four = of_bits binary64 4616189618054758400

abbrev pub five : Float
five = of_bits binary64 4617315517961601024

-- each beside its decimal; proofs/Nearest.antt has the one fact
abbrev pub constants : List Constant
constants =
    record { value = two; negative = false; numerator = 2; denominator = 1 }
    ∷ record { value = three; negative = false; numerator = 3; denominator = 1 }
    ∷ record { value = four; negative = false; numerator = 4; denominator = 1 }
    ∷ record { value = five; negative = false; numerator = 5; denominator = 1 }
    ∷ []
