-- The sign of a float, read off its constructors.
use Rattle.std.specs.Prelude.{Bool, false, not, ◌&&◌, Float}
use Rattle.std.specs.Float.{nan, inf, fin}
use Rattle.std.specs.Float.Ieee.Scale.{finite}

-- the sign bit (`f64::is_sign_negative`): set in -0.0 too. There is one NaN, without a sign: it counts as not set, and a row with a NaN is refused before its time's
-- sign is asked.
unfoldable pub is_sign_negative : Float → Bool
is_sign_negative nan = false
is_sign_negative (inf s) = s
is_sign_negative (fin s m e) = s

-- the absolute value (`f64::abs`, CDL.Reals.Abs): the same magnitude with the sign bit clear
unfoldable pub abs : Float → Float
abs nan = nan
abs (inf s) = inf false
abs (fin s m e) = fin false m e

-- what refusals 1 and 2 leave of a time: finite, with the sign bit clear
abbrev pub is_time : Float → Bool
is_time x = finite x && not (is_sign_negative x)
