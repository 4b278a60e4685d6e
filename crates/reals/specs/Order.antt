-- Greater and lesser of two numbers: a NaN loses to a number, and of two equal operands the first is given.
use Rattle.std.specs.Prelude.{List, Float}
use Rattle.std.specs.Float.{binary64}
use Rattle.std.specs.Float.Ieee.{lt, div, is_nan}
use Rattle.reals.specs.Constants.{plus_zero, one}
use Rattle.reals.specs.Four.{fold4, real}
use Rattle.reals.specs.Switch.{switch}

-- `a.max(b)` of the Rust standard library; CDL.Reals.Max for numbers
unfoldable pub greater : Float → Float → Float
greater a b = switch (is_nan a) b (switch (lt a b) b a)

-- `a.min(b)` of the Rust standard library; CDL.Reals.Min for numbers
unfoldable pub lesser : Float → Float → Float
lesser a b = switch (is_nan a) b (switch (lt b a) b a)

-- +∞: 1 divided by 0
abbrev pub infinity : Float
infinity = div binary64 one plus_zero

-- the smallest of four numbers, taken in order from +∞ on (CDL.Reals.MultiMin; `min4` of relief_fan_group.rs)
unfoldable pub smallest : List Float → Float
smallest values = fold4 (λ least i. lesser least (real values i)) infinity
