-- The words that the cases share: decimals as cases are written, numbers that they leave open, and values of accepted rows.
use Rattle.std.specs.Prelude.{ℕ, Bool, true, false, List, map, ℤ, Float}
use Rattle.std.specs.Float.{fin, binary64}
use Rattle.std.specs.Float.Ieee.{round}
use Rattle.past.specs.Whole.{Told, Taken}

-- n hundredths of a kelvin
abbrev pub kelvin : ℕ → Float
kelvin n = round binary64 false n 100

abbrev pub zero : Float
zero = round binary64 false 0 1

abbrev pub minus_one : Float
minus_one = round binary64 true 1 1

-- any finite number, by its sign, mantissa and exponent
pub record Number : Type 0 where
  pub negative : Bool
  pub mantissa : ℕ
  pub exponent : ℤ

abbrev pub number : Number → Float
number n = fin n.negative n.mantissa n.exponent

-- what accepted rows tell
abbrev pub taken : {A : Type 0} → List A → List (Told A)
taken = map Taken
