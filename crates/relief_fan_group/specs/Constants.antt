-- The constants of `relief_fan_group_trace` (relief_fan_group.rs) as 64-bit patterns: pressure in pascal, speeds from 0 to 1, times in seconds.
use Rattle.std.specs.Prelude.{false, List, [], ◌∷◌, Float}
use Rattle.std.specs.Float.{binary64}
use Rattle.std.specs.Float.Ieee.{add, of_bits}
use Rattle.reals.specs.Constants.{Constant}

-- the building static pressure setpoint, in pascal
abbrev pub pressure_setpoint : Float
pressure_setpoint = of_bits binary64 4622945017495814144

-- the minimum relief fan speed: the pressure loop below it asks for a fan less
abbrev pub min_speed : Float
min_speed = of_bits binary64 4591870180066957722

-- how far above the minimum speed the pressure loop asks for a fan more
abbrev pub stage_up_margin : Float
stage_up_margin = of_bits binary64 4594572339843380019

-- the pressure loop above it opens the dampers
abbrev pub damper_open : Float
damper_open = of_bits binary64 4587366580439587226

-- the pressure loop below it shuts them
abbrev pub damper_shut : Float
damper_shut = of_bits binary64 4572414629676717179

-- how long the loop asks before the dampers shut, in seconds
abbrev pub damper_shut_time : Float
damper_shut_time = of_bits binary64 4643985272004935680

-- how long it asks before a fan is added
abbrev pub stage_up_time : Float
stage_up_time = of_bits binary64 4646096334330265600

-- how long it asks before a fan is taken off
abbrev pub stage_down_time : Float
stage_down_time = of_bits binary64 4643985272004935680

-- how long a fan has to prove its start, or its stop
abbrev pub proof_time : Float
proof_time = of_bits binary64 4611686018427387904

-- the hysteresis of the four levels of the pressure loop
abbrev pub hys : Float
hys = of_bits binary64 4572414629676717179

-- the pressure loop above it asks for a fan more: 0.1 + 0.15, rounded once
abbrev pub stage_up_level : Float
stage_up_level = add binary64 min_speed stage_up_margin

-- each beside its decimal; proofs/Nearest.antt has the one fact
abbrev pub constants : List Constant
constants =
    record { value = pressure_setpoint; negative = false; numerator = 12; denominator = 1 }
    ∷ record { value = min_speed; negative = false; numerator = 1; denominator = 10 }
    ∷ record { value = stage_up_margin; negative = false; numerator = 15; denominator = 100 }
    ∷ record { value = damper_open; negative = false; numerator = 5; denominator = 100 }
    ∷ record { value = damper_shut; negative = false; numerator = 5; denominator = 1000 }
    ∷ record { value = damper_shut_time; negative = false; numerator = 300; denominator = 1 }
    ∷ record { value = stage_up_time; negative = false; numerator = 420; denominator = 1 }
    ∷ record { value = stage_down_time; negative = false; numerator = 300; denominator = 1 }
    ∷ record { value = proof_time; negative = false; numerator = 2; denominator = 1 }
    ∷ record { value = hys; negative = false; numerator = 5; denominator = 1000 }
    ∷ []
