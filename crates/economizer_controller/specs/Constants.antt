-- The constants of the economizer: temperatures in kelvin, times in seconds, positions and signals without a unit. Those that `reals` lacks are 64-bit patterns.
use Rattle.std.specs.Prelude.{true, false, List, [], ◌∷◌, Float, ℤ, pos}
use Rattle.std.specs.Float.{binary64}
use Rattle.std.specs.Float.Ieee.{of_bits}
use Rattle.reals.specs.Constants.{Constant, plus_zero, half, one}

-- ---- Limits.Common: the loop signal at which the outdoor damper is open and the return damper begins to close, and the physical limits of both
abbrev pub limits_return_damper_min : Float
limits_return_damper_min = half

abbrev pub return_damper_physical_max : Float
return_damper_physical_max = one

abbrev pub return_damper_physical_min : Float
return_damper_physical_min = plus_zero

abbrev pub outdoor_damper_physical_max : Float
outdoor_damper_physical_max = one

abbrev pub outdoor_damper_physical_min : Float
outdoor_damper_physical_min = plus_zero

-- Guideline 36's operation mode 1
abbrev pub occupied : ℤ
occupied = pos 1

-- ---- Enable: the fixed dry-bulb cutoff, 21 °C
abbrev pub outdoor_air_cutoff : Float
outdoor_air_cutoff = of_bits binary64 4643882357716575846

-- how long the hold keeps each of its values
abbrev pub hold_duration : Float
hold_duration = of_bits binary64 4648488871632306176

-- the outdoor damper keeps its upper limit for so long after the economizer is disabled
abbrev pub outdoor_delay : Float
outdoor_delay = of_bits binary64 4624633867356078080

-- the return damper is full open for so long after the economizer is disabled
abbrev pub return_delay : Float
return_delay = of_bits binary64 4640537203540230144

-- no freeze protection
abbrev pub no_freeze_stage : ℤ
no_freeze_stage = pos 0

-- ---- Modulations.Reliefs: the supply temperature signal from uMin to uMax; halfway the outdoor damper is at its upper limit and the return damper at its own
abbrev pub u_min : Float
u_min = of_bits binary64 13821547256400052224

abbrev pub u_max : Float
u_max = of_bits binary64 4598175219545276416

abbrev pub u_outdoor_damper_max : Float
u_outdoor_damper_max = plus_zero

abbrev pub u_return_damper_min : Float
u_return_damper_min = plus_zero

-- each pattern beside its decimal; proofs/Constants.antt has the one fact
abbrev pub constants : List Constant
constants =
    record { value = outdoor_air_cutoff; negative = false; numerator = 29415; denominator = 100 }
    ∷ record { value = hold_duration; negative = false; numerator = 600; denominator = 1 }
    ∷ record { value = outdoor_delay; negative = false; numerator = 15; denominator = 1 }
    ∷ record { value = return_delay; negative = false; numerator = 180; denominator = 1 }
    ∷ record { value = u_min; negative = true; numerator = 25; denominator = 100 }
    ∷ record { value = u_max; negative = false; numerator = 25; denominator = 100 }
    ∷ []
