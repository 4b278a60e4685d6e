-- Rows so far apart that the window of 512 points never fills: refusal 4.
use Rattle.std.specs.Prelude.{ℕ, Bool, true, false, ◌&&◌, List, [], ◌∷◌, Float}
use Rattle.std.specs.Float.{binary64}
use Rattle.std.specs.Float.Ieee.{sub, le, lt, fits, of_bits}
use Rattle.reals.specs.Sign.{is_time}
use Rattle.reals.specs.Constants.{Constant}

-- the least double y with 511 y at least 300, in seconds, by its 64-bit pattern
abbrev pub spacing_pattern : ℕ
spacing_pattern = 4603463203452169367

abbrev pub spacing : Float
spacing = of_bits binary64 spacing_pattern

-- beside its decimal; proofs/Nearest.antt has the one fact
abbrev pub spacings : List Constant
spacings = record { value = spacing; negative = false; numerator = 5870841487279844; denominator = 10000000000000000 } ∷ []

-- times, the newest first: each is a time that binary64 holds, and more than y after the one before
abbrev pub apart_by : Float → List Float → Bool
apart_by y [] = true
apart_by y (t ∷ []) = is_time t && fits binary64 t
apart_by y (t ∷ (p ∷ h)) = is_time t && fits binary64 t && (le p t && lt y (sub binary64 t p)) && apart_by y (p ∷ h)
