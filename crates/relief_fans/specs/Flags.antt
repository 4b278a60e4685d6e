-- Flags of the four fans: CDL.Logical.Not, Or, And, Xor and Switch fan by fan, CDL.Logical.MultiAnd and MultiOr over the fans.
use Rattle.std.specs.Prelude.{ℕ, Bool, true, false, not, ◌&&◌, ◌||◌, List}
use Rattle.std.specs.Bool.{beq}
use Rattle.reals.specs.Four.{flag, each4, fold4}
use Rattle.reals.specs.Switch.{switch}

abbrev pub not_at : List Bool → ℕ → Bool
not_at a i = not (flag a i)

unfoldable pub not_each : List Bool → List Bool
not_each a = each4 (not_at a)

abbrev pub or_at : List Bool → List Bool → ℕ → Bool
or_at a b i = flag a i || flag b i

unfoldable pub or_each : List Bool → List Bool → List Bool
or_each a b = each4 (or_at a b)

-- each flag, and one flag that stands for all fans
abbrev pub and_at : List Bool → Bool → ℕ → Bool
and_at a u i = flag a i && u

unfoldable pub and_each : List Bool → Bool → List Bool
and_each a u = each4 (and_at a u)

-- whether two flags are equal, `==` of the Rust
abbrev pub equal_at : List Bool → List Bool → ℕ → Bool
equal_at a b i = beq (flag a i) (flag b i)

unfoldable pub equal_each : List Bool → List Bool → List Bool
equal_each a b = each4 (equal_at a b)

abbrev pub xor_at : List Bool → List Bool → ℕ → Bool
xor_at a b i = not (equal_at a b i)

unfoldable pub xor_each : List Bool → List Bool → List Bool
xor_each a b = each4 (xor_at a b)

abbrev pub switch_at : Bool → List Bool → List Bool → ℕ → Bool
switch_at u a b i = switch u (flag a i) (flag b i)

unfoldable pub switch_each : Bool → List Bool → List Bool → List Bool
switch_each u a b = each4 (switch_at u a b)

abbrev pub all_step : List Bool → Bool → ℕ → Bool
all_step a y i = y && flag a i

unfoldable pub all_of : List Bool → Bool
all_of a = fold4 (all_step a) true

abbrev pub any_step : List Bool → Bool → ℕ → Bool
any_step a y i = y || flag a i

unfoldable pub any_of : List Bool → Bool
any_of a = fold4 (any_step a) false
