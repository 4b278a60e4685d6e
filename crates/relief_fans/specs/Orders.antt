-- The orders among which ReliefFanGroup.mo takes the smallest, for the next fan to start and the next to stop. Names as in relief_fan_group.rs.
use Rattle.std.specs.Prelude.{ℕ, Bool, List, Float}
use Rattle.std.specs.Float.{binary64}
use Rattle.std.specs.Float.Ieee.{add, sub, mul}
use Rattle.reals.specs.Four.{real, flag, each4}
use Rattle.reals.specs.Sign.{abs}
use Rattle.reals.specs.Switch.{switch, bool_to_real}
use Rattle.relief_fans.specs.Constants.{five}

-- the order of an enabled fan that is not proven on: order times (sub2: enabled less proven)
abbrev pub pro1_at : List Float → List Float → List Bool → ℕ → Float
pro1_at gai ena proof i = mul binary64 (real gai i) (sub binary64 (real ena i) (bool_to_real (flag proof i)))

unfoldable pub pro1 : List Float → List Float → List Bool → List Float
pro1 gai ena proof = each4 (pro1_at gai ena proof)

-- the order of an enabled fan that is proven on: order times proven
abbrev pub pro2_at : List Float → List Bool → ℕ → Float
pro2_at gai proof i = mul binary64 (real gai i) (bool_to_real (flag proof i))

unfoldable pub pro2 : List Float → List Bool → List Float
pro2 gai proof = each4 (pro2_at gai proof)

-- a marked fan's order is put behind those of the others by 5 (`swi` and `swi1`)
abbrev pub swi_at : List Bool → List Float → ℕ → Float
swi_at marked order i = switch (flag marked i) (add binary64 (real order i) five) (real order i)

unfoldable pub swi : List Bool → List Float → List Float
swi marked order = each4 (swi_at marked order)

-- while all fans are off the orders stand as they are (`swi3`)
abbrev pub swi3_at : Bool → List Float → List Float → ℕ → Float
swi3_at allOff pro1 swi i = switch allOff (real pro1 i) (real swi i)

unfoldable pub swi3 : Bool → List Float → List Float → List Float
swi3 allOff pro1 swi = each4 (swi3_at allOff pro1 swi)

-- how far a fan's order is from the smallest: 0 for the next fan (CDL.Reals.Subtract, CDL.Reals.Abs)
abbrev pub distance_at : List Float → Float → ℕ → Float
distance_at gai next i = abs (sub binary64 (real gai i) next)

unfoldable pub distance : List Float → Float → List Float
distance gai next = each4 (distance_at gai next)
