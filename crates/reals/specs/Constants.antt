-- Numbers as 64-bit patterns, and what it is for such a pattern to be right: it is the double nearest to a decimal.
use Rattle.std.specs.Prelude.{ℕ, Bool, true, false, List, [], ◌∷◌, Float}
use Rattle.std.specs.Float.{binary64}
use Rattle.std.specs.Float.Ieee.{round, of_bits}

-- 0, with the sign bit clear
abbrev pub plus_zero : Float
plus_zero = of_bits binary64 0

abbrev pub one : Float
one = of_bits binary64 4607182418800017408

abbrev pub half : Float
half = of_bits binary64 4602678819172646912

abbrev pub nine_tenths : Float
nine_tenths = of_bits binary64 4606281698874543309

abbrev pub minus_one : Float
minus_one = of_bits binary64 13830554455654793216

-- a whole number, as of seconds, rounded once
abbrev pub whole : ℕ → Float
whole n = round binary64 false n 1

-- a constant beside the decimal fraction that it stands for: numerator / denominator, below 0 where `negative`
pub record Constant : Type 0 where
  pub value : Float
  pub negative : Bool
  pub numerator : ℕ
  pub denominator : ℕ

-- the double nearest to the decimal of a constant: IEEE 754, round to nearest, ties to even
abbrev pub nearest : Constant → Float
nearest c = round binary64 c.negative c.numerator c.denominator

-- the constants of this crate; proofs/Constants.antt has the one fact that each is the double nearest to its decimal
abbrev pub constants : List Constant
constants =
    record { value = plus_zero; negative = false; numerator = 0; denominator = 1 }
    ∷ record { value = one; negative = false; numerator = 1; denominator = 1 }
    ∷ record { value = half; negative = false; numerator = 5; denominator = 10 }
    ∷ record { value = nine_tenths; negative = false; numerator = 9; denominator = 10 }
    ∷ record { value = minus_one; negative = true; numerator = 1; denominator = 1 }
    ∷ []
