-- Each constant is the double nearest to its number: one fact over each table. Assumes nothing.
use mathlib.Core.Path.{◌≡◌, refl}
use mathlib.Core.List.{map}
use lib.Ieee.{round, of_bits}
use Rattle.reals.specs.Constants.{nearest}
use Rattle.relief_answers.specs.Sum.{bounds}
use Rattle.relief_answers.specs.Spacing.{spacings}

pub bounds_nearest : map (λ c. c.value) bounds ≡ map nearest bounds
unfolding round of_bits
bounds_nearest = refl

pub spacings_nearest : map (λ c. c.value) spacings ≡ map nearest spacings
unfolding round of_bits
spacings_nearest = refl
