-- The constants of freeze protection as 64-bit patterns: temperatures in kelvin, times in seconds.
use Rattle.std.specs.Prelude.{false, List, [], ◌∷◌, Float}
use Rattle.std.specs.Float.{binary64}
use Rattle.std.specs.Float.Ieee.{of_bits}
use Rattle.reals.specs.Constants.{Constant}

-- supply air below it calls for stage 1: 4.4 °C
abbrev pub cold_stage1 : Float
cold_stage1 = of_bits binary64 4643590327428238541

-- for stage 2, and for stage 3 after 15 minutes: 3.3 °C
abbrev pub cold_stage2 : Float
cold_stage2 = of_bits binary64 4643570976023589683

-- for stage 3 after 5 minutes: 1 °C
abbrev pub cold_stage3 : Float
cold_stage3 = of_bits binary64 4643530513995687526

-- supply air above it ends stage 1: 7 °C
abbrev pub warm_level : Float
warm_level = of_bits binary64 4643636067111954022

-- the hysteresis of all four, in kelvin
abbrev pub band : Float
band = of_bits binary64 4598175219545276416

abbrev pub five_minutes : Float
five_minutes = of_bits binary64 4643985272004935680

abbrev pub fifteen_minutes : Float
fifteen_minutes = of_bits binary64 4651127699538968576

abbrev pub hour : Float
hour = of_bits binary64 4660134898793709568

-- the supply air setpoint of the stage 1 heating loop: 6 °C
abbrev pub stage1_setpoint : Float
stage1_setpoint = of_bits binary64 4643618474925909606

-- the setpoint of the stage 3 heating loop, for the warmer of supply and mixed air: 27 °C
abbrev pub stage3_setpoint : Float
stage3_setpoint = of_bits binary64 4643987910832842342

-- each beside its decimal; proofs/Nearest.antt has the one fact
abbrev pub constants : List Constant
constants =
    record { value = cold_stage1; negative = false; numerator = 27755; denominator = 100 }
    ∷ record { value = cold_stage2; negative = false; numerator = 27645; denominator = 100 }
    ∷ record { value = cold_stage3; negative = false; numerator = 27415; denominator = 100 }
    ∷ record { value = warm_level; negative = false; numerator = 28015; denominator = 100 }
    ∷ record { value = band; negative = false; numerator = 25; denominator = 100 }
    ∷ record { value = five_minutes; negative = false; numerator = 300; denominator = 1 }
    ∷ record { value = fifteen_minutes; negative = false; numerator = 900; denominator = 1 }
    ∷ record { value = hour; negative = false; numerator = 3600; denominator = 1 }
    ∷ record { value = stage1_setpoint; negative = false; numerator = 27915; denominator = 100 }
    ∷ record { value = stage3_setpoint; negative = false; numerator = 30015; denominator = 100 }
    ∷ []
