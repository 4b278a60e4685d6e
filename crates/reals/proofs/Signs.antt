-- The library's words for what is asked of a float are those of specs/Sign.antt and Switch.antt. Assumes nothing.
use mathlib.Core.Path.{◌≡◌, refl, sym}
use mathlib.Core.Bool.{Bool, true, false, true≢false}
use lib.IntN.{pos}
use lib.Ieee.{Float, nan, inf, fin, binary64, is_nan, of_int, of_bits}
use lib.Ieee.Scale.{finite}
use Rattle.std.specs.Int.{from_bool}
use Rattle.std.specs.Float as library
use Rattle.std.specs.Float.{float_is_finite, float_with_sign}
use Rattle.reals.specs.Sign.{is_sign_negative, abs}
use Rattle.reals.specs.Switch.{bool_to_real}

pub finite_told : (x : Float) → float_is_finite x ≡ finite x
unfolding float_is_finite
finite_told nan = refl
finite_told (inf s) = refl
finite_told (fin s m e) = refl

pub sign_told : (x : Float) → library.is_sign_negative x ≡ is_sign_negative x
unfolding library.is_sign_negative is_sign_negative
sign_told nan = refl
sign_told (inf s) = refl
sign_told (fin s m e) = refl

pub nan_unsigned : (x : Float) → is_nan x ≡ true → is_sign_negative x ≡ false
unfolding is_nan is_sign_negative
nan_unsigned nan e = refl
nan_unsigned (inf s) e = absurd (true≢false (sym e))
nan_unsigned (fin s m k) e = absurd (true≢false (sym e))

pub sign_cleared : (x : Float) → float_with_sign false x ≡ abs x
unfolding float_with_sign abs
sign_cleared nan = refl
sign_cleared (inf s) = refl
sign_cleared (fin s m e) = refl

pub bool_told : (b : Bool) → of_int binary64 (pos (from_bool b)) ≡ bool_to_real b
unfolding of_int of_bits bool_to_real
bool_told true = refl
bool_told false = refl
