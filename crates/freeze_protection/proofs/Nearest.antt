-- Each constant is the double nearest to its decimal: one fact over the table. Assumes nothing.
use mathlib.Core.Path.{◌≡◌, refl}
use mathlib.Core.List.{map}
use lib.Ieee.{round, of_bits}
use Rattle.reals.specs.Constants.{nearest}
use Rattle.freeze_protection.specs.Constants.{constants}

pub constants_nearest : map (λ c. c.value) constants ≡ map nearest constants
unfolding round of_bits
constants_nearest = refl
