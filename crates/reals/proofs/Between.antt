-- Numbers between limits, a NaN between limits, and sums, products, differences and quotients that are numbers. Assumes nothing.
use Prim.Native.Nat.{ℕ, zero, suc, ◌+◌, ◌-◌, ◌*◌}
use native.Mathlib.Nat.{mul-pos, zero-mul}
use native.Mathlib.Omega.{arith}
use mathlib.Core.Path.{◌≡◌, refl, ap, ◌∙◌}
use mathlib.Core.Bool.{Bool, true, false, not, ◌&&◌, beq, cond, true≢false}
use lib.Dec.{T, ltb, eqb-suc-zero}
use lib.IntN.{pos}
use lib.Ieee.{Float, nan, inf, fin, Format, binary64, up, down, lt, le, is_nan, round, sum, add, sub, mul, div, neg}
use lib.Ieee.Fits.{down_pos}
use lib.Ieee.Positive.{positive}
use lib.Ieee.Scale.{finite}
use Rattle.reals.specs.Constants.{plus_zero}
use Rattle.reals.specs.Limits.{limit, clamp}
use Rattle.reals.specs.Order.{greater, lesser}
use Rattle.reals.specs.Switch.{switch}
use Rattle.reals.proofs.FloatOrder.{le_numbers, lt→le, not-lt→le, le_refl, lt_nan}
use Rattle.reals.proofs.Round.{plain, round_plain, neg_round, zero_is, zero_rounds}

-- ---- the lesser of two
-- it is at most the second, if that is a number, whatever the first is
pub lesser_at_most : (a m : Float) → is_nan m ≡ false → T (le (lesser a m) m)
unfolding lesser switch
lesser_at_most a m number = go (is_nan a) (lt m a) (not-lt→le m a number)
  where
    go : (n l : Bool) → (n ≡ false → l ≡ false → T (le a m)) → T (le (cond n m (cond l m a)) m)
    go true l f = le_refl m number
    go false true f = le_refl m number
    go false false f = f refl refl

-- a NaN that stands first is passed over, and so is one that stands second
pub lesser_nan : (a m : Float) → is_nan a ≡ true → lesser a m ≡ m
unfolding lesser switch
lesser_nan a m e = rw e

pub lesser_of_nan : (a : Float) → lesser a nan ≡ a
unfolding lesser switch lt is_nan
lesser_of_nan nan = refl
lesser_of_nan (inf s) = refl
lesser_of_nan (fin s m e) = refl

-- ---- `clamp` gives a number between its limits, at a NaN too
pub clamp_above : (u min max : Float) → T (le min max) → T (le min (clamp u min max))
unfolding clamp greater switch
clamp_above u min max b = rw (le_numbers min max b).0 (go (lt min (lesser u max)) (lt→le min (lesser u max)))
  where
    go : (l : Bool) → (T l → T (le min (lesser u max))) → T (le min (cond l (lesser u max) min))
    go true f = f tt
    go false f = le_refl min (le_numbers min max b).0

pub clamp_below : (u min max : Float) → T (le min max) → T (le (clamp u min max) max)
unfolding clamp greater switch
clamp_below u min max b = rw (le_numbers min max b).0 (go (lt min (lesser u max)))
  where
    go : (l : Bool) → T (le (cond l (lesser u max) min) max)
    go true = lesser_at_most u max (le_numbers min max b).1
    go false = b

-- ---- `limit`, `f64::clamp`, gives a NaN back
pub limit_of_nan : (min max : Float) → limit nan min max ≡ nan
unfolding limit switch
limit_of_nan min max = simp ((lt_nan min).0, (lt_nan max).1)

-- a number it puts between its limits
pub limit_above : (x min max : Float) → is_nan x ≡ false → T (le min max) → T (le min (limit x min max))
unfolding limit switch
limit_above x min max number b = upper (lt x min) (not-lt→le x min number (le_numbers min max b).0)
  where
    lower : (l : Bool) (raised : Float) → T (le min raised) → T (le min (cond l max raised))
    lower true raised h = b
    lower false raised h = h

    upper : (l : Bool) → (l ≡ false → T (le min x)) → T (le min (cond (lt max (cond l min x)) max (cond l min x)))
    upper true f = lower (lt max min) min (le_refl min (le_numbers min max b).0)
    upper false f = lower (lt max x) x (f refl)

pub limit_below : (x min max : Float) → is_nan x ≡ false → T (le min max) → T (le (limit x min max) max)
unfolding limit switch
limit_below x min max number b = upper (lt x min)
  where
    lower : (l : Bool) (raised : Float) → (l ≡ false → T (le raised max)) → T (le (cond l max raised) max)
    lower true raised f = le_refl max (le_numbers min max b).1
    lower false raised f = f refl

    upper : (l : Bool) → T (le (cond (lt max (cond l min x)) max (cond l min x)) max)
    upper true = lower (lt max min) min (λ e. b)
    upper false = lower (lt max x) x (not-lt→le max x (le_numbers min max b).1 number)

-- between two finite numbers there is no infinity
pub finite_between : (lo x hi : Float) → T (finite lo) → T (finite hi) → T (le lo x) → T (le x hi) → T (finite x)
unfolding le
finite_between nan x hi f g a b = absurd f
finite_between (inf s) x hi f g a b = absurd f
finite_between (fin s m e) nan hi f g a b = absurd a
finite_between (fin s m e) (inf true) hi f g a b = absurd a
finite_between (fin s m e) (inf false) nan f g a b = absurd g
finite_between (fin s m e) (inf false) (inf u) f g a b = absurd g
finite_between (fin s m e) (inf false) (fin u l d) f g a b = absurd b
finite_between (fin s m e) (fin t n d) hi f g a b = tt

pub clamp_finite : (u min max : Float) → T (finite min) → T (finite max) → T (le min max) → T (finite (clamp u min max))
clamp_finite u min max f g b = finite_between min (clamp u min max) max f g (clamp_above u min max b) (clamp_below u min max b)

-- ---- a product of finite numbers, and a sum of a finite number and a number, are numbers
plain_number : (x : Float) → T (plain x) → is_nan x ≡ false
unfolding is_nan
plain_number nan h = absurd h
plain_number (inf s) h = refl
plain_number (fin s m e) h = refl

neg_number : (x : Float) → is_nan (neg x) ≡ is_nan x
unfolding is_nan neg
neg_number nan = refl
neg_number (inf s) = refl
neg_number (fin s m e) = refl

round_number : (f : Format) (s : Bool) (a c : ℕ) → is_nan (round f s a c) ≡ false
round_number f false a c = plain_number (round f false a c) (round_plain f a c)
round_number f true a c = rw (neg_round f a c, neg_number (round f false a c)) (plain_number (round f false a c) (round_plain f a c))

cond_number : (b : Bool) (x y : Float) → is_nan x ≡ false → is_nan y ≡ false → is_nan (cond b x y) ≡ false
cond_number true x y h k = h
cond_number false x y h k = k

pub switch_number : (b : Bool) (x y : Float) → is_nan x ≡ false → is_nan y ≡ false → is_nan (switch b x y) ≡ false
unfolding switch
switch_number = cond_number

pub mul_number : (f : Format) (x y : Float) → T (finite x) → T (finite y) → is_nan (mul f x y) ≡ false
unfolding mul
mul_number f nan y h k = absurd h
mul_number f (inf s) y h k = absurd h
mul_number f (fin s m e) nan h k = absurd k
mul_number f (fin s m e) (inf t) h k = absurd k
mul_number f (fin s m e) (fin t n d) h k = round_number f (not (beq s t)) (m * up e * (n * up d)) (down e * down d)

pub add_number : (f : Format) (x y : Float) → T (finite x) → is_nan y ≡ false → is_nan (add f x y) ≡ false
unfolding add sum is_nan
add_number f nan y h k = absurd h
add_number f (inf s) y h k = absurd h
add_number f (fin s m e) nan h k = absurd (true≢false k)
add_number f (fin s m e) (inf t) h k = refl
add_number f (fin s m e) (fin t n d) h k = go (m * up e * down d) (n * up d * down e) (down e * down d)
  where
    go : (a b c : ℕ) → is_nan (cond (beq s t) (round f s (a + b) c) (cond (ltb a b) (round f t (b - a) c) (round f (s && ltb b a) (a - b) c))) ≡ false
    go a b c =
        cond_number (beq s t) (round f s (a + b) c) (cond (ltb a b) (round f t (b - a) c) (round f (s && ltb b a) (a - b) c)) (round_number f s (a + b) c)
        (cond_number (ltb a b) (round f t (b - a) c) (round f (s && ltb b a) (a - b) c) (round_number f t (b - a) c) (round_number f (s && ltb b a) (a - b) c))

-- ---- a difference and a quotient of a number and a finite number, the divisor above 0, are numbers
pub sub_number : (f : Format) (x y : Float) → is_nan x ≡ false → T (finite y) → is_nan (sub f x y) ≡ false
unfolding sub add neg is_nan
sub_number f nan y h k = absurd (true≢false h)
sub_number f (inf s) nan h k = absurd k
sub_number f (inf s) (inf t) h k = absurd k
sub_number f (inf s) (fin t n d) h k = refl
sub_number f (fin s m e) nan h k = absurd k
sub_number f (fin s m e) (inf t) h k = absurd k
sub_number f (fin s m e) (fin t n d) h k = add_number f (fin s m e) (fin (not t) n d) tt refl

pub div_number : (f : Format) (x y : Float) → is_nan x ≡ false → T (positive y) → is_nan (div f x y) ≡ false
unfolding div is_nan
div_number f nan y h k = absurd (true≢false h)
div_number f (inf s) nan h k = absurd k
div_number f (inf s) (inf t) h k = absurd k
div_number f (inf s) (fin t n d) h k = refl
div_number f (fin s m e) nan h k = absurd k
div_number f (fin s m e) (inf t) h k = absurd k
div_number f (fin s m e) (fin true n d) h k = absurd k
div_number f (fin s m e) (fin false zero d) h k = absurd k
div_number f (fin s m e) (fin false (suc n) d) h k = rw (eqb-suc-zero n) (round_number f (not (beq s false)) (m * up e * down d) (suc n * up d * down e))

-- 0 times a finite number above 0 is 0
zero_product : (x : Float) → T (lt (fin false 0 (pos 0)) x) → T (finite x) → mul binary64 (fin false 0 (pos 0)) x ≡ plus_zero
unfolding lt mul
zero_product nan h k = absurd k
zero_product (inf s) h k = absurd k
zero_product (fin true m e) h k = absurd h
zero_product (fin false m e) h k = rw (zero-mul (m * up e)) (zero_rounds 0 (1 * down e) (mul-pos (omega arith) (down_pos e)))

pub zero_times : (x : Float) → T (lt plus_zero x) → T (finite x) → mul binary64 plus_zero x ≡ plus_zero
zero_times x h k = ap (λ (z : Float). mul binary64 z x) zero_is ∙ zero_product x (rw zero_is at h) k
