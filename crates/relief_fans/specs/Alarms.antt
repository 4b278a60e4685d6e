-- The alarms of the four fans in a signed byte each, so that a state is small.
use Rattle.std.specs.Prelude.{ℕ, Bool, not, cond, ◌&&◌, List, ℤ, pos, negsuc}
use Rattle.std.specs.Int.Signed.{lt_z}
use Rattle.reals.specs.Four.{each4}
use Rattle.relief_fans.specs.Commands.{level}
use Rattle.relief_fans.specs.Flags.{all_of}

-- the least and the greatest number that a signed byte holds: −128 (negsuc n is −1 − n) and 127
abbrev pub least : ℤ
least = negsuc 127

abbrev pub greatest : ℤ
greatest = pos 127

-- an alarm that is not below the one nor above the other
unfoldable pub fits_byte : ℤ → Bool
fits_byte alarm = not (lt_z alarm least) && not (lt_z greatest alarm)

abbrev pub fits_at : List ℤ → ℕ → Bool
fits_at alarm i = fits_byte (level alarm i)

-- each of the four is such
unfoldable pub alarms_fit : List ℤ → Bool
alarms_fit alarm = all_of (each4 (fits_at alarm))

-- an alarm in a byte: the number itself where it fits, and else, which no accepted row has, 0
unfoldable pub alarm_byte : ℤ → ℤ
alarm_byte alarm = cond (fits_byte alarm) alarm (pos 0)

abbrev pub byte_at : List ℤ → ℕ → ℤ
byte_at alarm i = alarm_byte (level alarm i)

-- each of the four in a byte
unfoldable pub alarm_bytes : List ℤ → List ℤ
alarm_bytes alarm = each4 (byte_at alarm)
