-- Sentences about single numbers: greater and lesser pass a NaN over and give the first of two equal operands; `clamp` at a NaN.
-- (`f64::clamp` at a NaN: `limit_of_nan` of reals.) Assumes nothing.
use mathlib.Core.Path.{◌≡◌, refl}
use mathlib.Core.Bool.{false}
use lib.Ieee.{Float, nan, of_bits, is_nan, lt}
use Rattle.reals.specs.Constants.{plus_zero, one}
use Rattle.reals.specs.Switch.{switch}
use Rattle.reals.specs.Order.{greater, lesser}
use Rattle.reals.specs.Limits.{clamp}
use Rattle.reals.proofs.FloatOrder.{lt_nan}

-- a NaN operand loses to a number, whichever it is
pub greater_passes_over : (x : Float) → is_nan x ≡ false → (greater nan x ≡ x) × (greater x nan ≡ x)
unfolding greater switch is_nan
greater_passes_over x h = (refl, simp (h, (lt_nan x).1))

pub lesser_passes_over : (x : Float) → is_nan x ≡ false → (lesser nan x ≡ x) × (lesser x nan ≡ x)
unfolding lesser switch is_nan
lesser_passes_over x h = (refl, simp (h, (lt_nan x).0))

-- of two operands neither of which is below the other the first is given
pub greater_gives_first : (a b : Float) → is_nan a ≡ false → lt a b ≡ false → greater a b ≡ a
unfolding greater switch
greater_gives_first a b h l = simp (h, l)

pub lesser_gives_first : (a b : Float) → is_nan a ≡ false → lt b a ≡ false → lesser a b ≡ a
unfolding lesser switch
lesser_gives_first a b h l = simp (h, l)

-- `clamp(NaN, 0, 1)` is 1
pub clamp_of_nan : clamp nan plus_zero one ≡ one
unfolding clamp greater lesser switch of_bits is_nan lt
clamp_of_nan = refl
