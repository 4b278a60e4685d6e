-- The commands of the four fans (ReliefFanGroup.mo: yRelFan, yDam; the last loop of `relief_fan_group_trace`).
use Rattle.std.specs.Prelude.{ℕ, Bool, false, not, ◌||◌, List, eqb, ℤ, pos, negsuc, get_or, Float}
use Rattle.std.specs.Float.{binary64}
use Rattle.std.specs.Float.Ieee.{mul}
use Rattle.reals.specs.Four.{flag, each4}
use Rattle.reals.specs.Switch.{bool_to_real}

-- the level at an index
abbrev pub level : List ℤ → ℕ → ℤ
level alarm i = get_or alarm i (pos 0)

-- an alarm of level 2
unfoldable pub is_level2 : ℤ → Bool
is_level2 (pos n) = eqb n 2
is_level2 (negsuc n) = false

-- the alarm guard: false for an alarm of level 2 while the fan is not proven on
unfoldable pub alarm_off_guard : ℤ → Bool → Bool
alarm_off_guard alarm proof = not (is_level2 alarm) || proof

-- the common speed where the fan is commanded on, else 0; where the common speed is a NaN or infinite, NaN
abbrev pub fan_speed_at : Float → List Bool → ℕ → Float
fan_speed_at base on i = mul binary64 base (bool_to_real (flag on i))

unfoldable pub fan_speed : Float → List Bool → List Float
fan_speed base on = each4 (fan_speed_at base on)

-- 1 where the damper is commanded open and the guard leaves it so, else 0
abbrev pub damper_at : List Bool → List ℤ → List Bool → ℕ → Float
damper_at opened alarm proof i = mul binary64 (bool_to_real (flag opened i)) (bool_to_real (alarm_off_guard (level alarm i) (flag proof i)))

unfoldable pub damper : List Bool → List ℤ → List Bool → List Float
damper opened alarm proof = each4 (damper_at opened alarm proof)
