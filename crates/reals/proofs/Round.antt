-- Rounding: it keeps the sign, it turns about 0, and a value that binary64 holds it leaves as it is. Assumes nothing.
use Prim.Native.Nat.{ℕ, zero, suc, ◌+◌, ◌-◌, ◌*◌, ◌/◌, ◌%◌, ◌^◌, ◌≤◌, ◌<◌, suc-le-suc}
use native.Mathlib.Nat.{mul_comm, mul_assoc, mul_right_comm, mul-one, one-mul, zero-mul, sub_self, not-le_of_lt, lt_of_not-le, mul-lt-mul_of_pos_right, lt_of_mul-lt-mul_right, eq_of_mul-eq-mul_right}
use native.Mathlib.Omega.{arith}
use mathlib.Core.Path.{◌≡◌, refl, sym, ap, ◌∙◌}
use mathlib.Core.Bool.{Bool, true, false, not, ◌&&◌, cond}
use lib.IntN.{ℤ, pos, negsuc}
use lib.Dec.{T, ltb, leb, eqb, ltb→lt, leb→le, eqb→eq, leb-suc-zero}
use lib.Pow.{pow-add, pow_pos, pow-lt}
use lib.Ieee.{Float, nan, inf, fin, Format, binary64, up, down, lt, le, neg, round, units, odd, low, prec, emax, fits, to_bits, of_bits}
use lib.Ieee.Digits.{back}
use lib.Ieee.Fits.{round_is, round-fits, down_pos, and_l, and_r}
use lib.Ieee.Bits.{of_bits-to_bits}
use lib.Ieee.Exact.{HasValue, round_exact}
use lib.Ieee.Nearest.{div_same}
use lib.Ieee.Scale.{finite, round_same}
use Rattle.reals.specs.Constants.{plus_zero}
use Rattle.reals.proofs.FloatOrder.{to_most, of_most}

-- a number with the sign bit clear, +∞ among them
abbrev pub plain : Float → Bool
plain nan = false
plain (inf s) = not s
plain (fin s m e) = not s

-- ---- a fraction rounded with the sign clear is plain
odd_plain : (d q k l : ℕ) → T (plain (odd d false q k l))
unfolding odd
odd_plain d zero k l = tt
odd_plain d (suc q) k l = tt

cond_plain : (b : Bool) (x y : Float) → T (plain x) → T (plain y) → T (plain (cond b x y))
cond_plain true x y h k = h
cond_plain false x y h k = k

units_plain : (f : Format) (q k : ℕ) → T (plain (units f false q k))
unfolding units
units_plain f q k = cond_plain (ltb (q * 2 ^ k) (2 ^ (low f + suc (emax f)))) (odd (suc (prec f)) false q k (low f)) (inf false) (odd_plain (suc (prec f)) q k (low f)) tt

pub round_plain : (f : Format) (a c : ℕ) → T (plain (round f false a c))
round_plain f a c = rw (round_is f false a c) (units_plain f _ _)

-- ---- and with the sign set it is the negative
neg_odd : (d q k l : ℕ) → odd d true q k l ≡ neg (odd d false q k l)
unfolding odd neg
neg_odd d zero k l = refl
neg_odd d (suc q) k l = refl

neg_units : (f : Format) (q k : ℕ) → units f true q k ≡ neg (units f false q k)
unfolding units
neg_units f q k = go (ltb (q * 2 ^ k) (2 ^ (low f + suc (emax f))))
  where
    go : (b : Bool) → cond b (odd (suc (prec f)) true q k (low f)) (inf true) ≡ neg (cond b (odd (suc (prec f)) false q k (low f)) (inf false))
    go true = neg_odd (suc (prec f)) q k (low f)
    go false = unfold neg in refl

pub neg_round : (f : Format) (a c : ℕ) → round f true a c ≡ neg (round f false a c)
neg_round f a c = rw (round_is f true a c, round_is f false a c) (neg_units f _ _)

-- ---- plain numbers and their negatives
pub neg_order : (x y : Float) → T (plain x) → T (plain y) → T (le x y) → T (le (neg y) (neg x))
unfolding le neg
neg_order nan y h k l = absurd h
neg_order (inf true) y h k l = absurd h
neg_order (fin true m e) y h k l = absurd h
neg_order (inf false) nan h k l = absurd k
neg_order (inf false) (inf true) h k l = absurd k
neg_order (inf false) (inf false) h k l = tt
neg_order (inf false) (fin t n d) h k l = absurd l
neg_order (fin false m e) nan h k l = absurd k
neg_order (fin false m e) (inf true) h k l = absurd k
neg_order (fin false m e) (inf false) h k l = tt
neg_order (fin false m e) (fin true n d) h k l = absurd k
neg_order (fin false m e) (fin false n d) h k l = of_most true true (n * up d * down e) (m * up e * down d) (to_most false false (m * up e * down d) (n * up d * down e) l)

pub neg_below : (x y : Float) → T (plain x) → T (plain y) → T (le (neg x) y)
unfolding le neg
neg_below nan y h k = absurd h
neg_below (inf true) y h k = absurd h
neg_below (fin true m e) y h k = absurd h
neg_below (inf false) nan h k = absurd k
neg_below (inf false) (inf true) h k = absurd k
neg_below (inf false) (inf false) h k = tt
neg_below (inf false) (fin t n d) h k = tt
neg_below (fin false m e) nan h k = absurd k
neg_below (fin false m e) (inf true) h k = absurd k
neg_below (fin false m e) (inf false) h k = tt
neg_below (fin false m e) (fin true n d) h k = absurd k
neg_below (fin false m e) (fin false n d) h k = of_most true false (m * up e * down d) (n * up d * down e) tt

-- a plain number at most a finite one is finite
pub under_finite : (x y : Float) → T (plain x) → T (finite y) → T (le x y) → T (finite x)
unfolding le
under_finite nan y h k l = absurd h
under_finite (inf true) y h k l = absurd h
under_finite (inf false) nan h k l = absurd k
under_finite (inf false) (inf t) h k l = absurd k
under_finite (inf false) (fin t n d) h k l = absurd l
under_finite (fin s m e) y h k l = tt

-- ---- 0, and a plain number is not below it
pub zero_is : plus_zero ≡ fin false 0 (pos 0)
unfolding of_bits
zero_is = refl

pub plain_not_below : (x : Float) → T (plain x) → lt x plus_zero ≡ false
unfolding lt
plain_not_below nan h = absurd h
plain_not_below (inf true) h = absurd h
plain_not_below (inf false) h = rw zero_is refl
plain_not_below (fin true m e) h = absurd h
plain_not_below (fin false m e) h = rw (zero_is, zero-mul (down e)) (leb-suc-zero (m * up e * 1))

pub zero_rounds : (a c : ℕ) → 0 < c → round binary64 false (a - a) c ≡ plus_zero
zero_rounds a c C = rw (sub_self a) (round_same binary64 false 0 c 0 1 C (omega arith) (omega (arith, zero-mul c)) ∙ (unfold round of_bits in refl))

-- ---- a value that binary64 holds: m times 2 ^ e is a whole number of the format's smallest values
flat : (e : ℤ) → up e * down e ≡ 1 → down e ≡ 1
flat (pos k) h = refl
flat (negsuc k) h = sym (one-mul (2 ^ suc k)) ∙ h

-- the denominator is at most 2 ^ low
pub coarse : (f : Format) (s : Bool) (m : ℕ) (e : ℤ) → T (fits f (fin s m e)) → down e ≤ 2 ^ low f
unfolding fits
coarse f s zero e h = omega (arith, flat e (eqb→eq (up e * down e) 1 h), pow_pos (low f))
coarse f s (suc m) e h =
    leb→le (down e) (2 ^ low f)
    (and_r (eqb (suc m % 2) 1 && ltb (suc m) (2 ^ prec f)) (leb (down e) (2 ^ low f))
    (and_l (eqb (suc m % 2) 1 && ltb (suc m) (2 ^ prec f) && leb (down e) (2 ^ low f)) (ltb (suc m * up e) (2 ^ suc (emax f) * down e)) h))

pub in_units : (l : ℕ) (e : ℤ) → down e ≤ 2 ^ l → (j : ℕ) × (up e * 2 ^ l ≡ 2 ^ j * down e)
in_units l (pos k) h = (k + l, sym (pow-add 2 k l) ∙ sym (mul-one (2 ^ (k + l))))
in_units l (negsuc k) h = (l - suc k, one-mul (2 ^ l) ∙ ap (λ (x : ℕ). 2 ^ x) (sym (back l (suc k) room)) ∙ pow-add 2 (l - suc k) (suc k))
  where
    room : suc k ≤ l
    room = lt_of_not-le (λ (g : l ≤ k). not-le_of_lt (pow-lt (suc-le-suc g)) h)

-- two values that the format holds, of one sign and size, are the same data: they have the same bits
pub value_unique : (f : Format) (x y : Float) (s : Bool) (a c : ℕ) → 0 < c → T (fits f x) → T (fits f y) → HasValue x s a c → HasValue y s a c → x ≡ y
value_unique f nan y s a c C p q v w = absurd v
value_unique f (inf t) y s a c C p q v w = absurd v
value_unique f (fin t m e) nan s a c C p q v w = absurd w
value_unique f (fin t m e) (inf u) s a c C p q v w = absurd w
value_unique f (fin t m e) (fin u n d) s a c C p q v w = sym (of_bits-to_bits f (fin t m e) p) ∙ ap (of_bits f) bits ∙ of_bits-to_bits f (fin u n d) q
  where
    cross : m * up e * down d ≡ n * up d * down e
    cross =
        eq_of_mul-eq-mul_right c C (m * up e * down d) (n * up d * down e)
        (mul_right_comm (m * up e) (down d) c
        ∙ ap (λ (k : ℕ). k * down d) v.1
        ∙ mul_right_comm a (down e) (down d)
        ∙ ap (λ (k : ℕ). k * down e) (sym w.1)
        ∙ mul_right_comm (n * up d) c (down e))

    size_same : m * up e * 2 ^ low f / down e ≡ n * up d * 2 ^ low f / down d
    size_same =
        div_same (m * up e * 2 ^ low f) (down e) (n * up d * 2 ^ low f) (down d) (down_pos e) (down_pos d)
        (mul_right_comm (m * up e) (2 ^ low f) (down d) ∙ ap (λ (k : ℕ). k * 2 ^ low f) cross ∙ mul_right_comm (n * up d) (down e) (2 ^ low f))

    bits : to_bits f (fin t m e) ≡ to_bits f (fin u n d)
    bits = unfold to_bits in (rw (v.0, w.0, size_same) refl)

-- what `fits` says of a magnitude that is not 0: its digits are few, and it is below 2 ^ (emax + 1)
digits : (f : Format) (s : Bool) (m : ℕ) (e : ℤ) → T (fits f (fin s (suc m) e)) → (suc m < 2 ^ prec f) × (suc m * up e < 2 ^ suc (emax f) * down e)
unfolding fits
digits f s m e h =
    let a = eqb (suc m % 2) 1 in
    let b = ltb (suc m) (2 ^ prec f) in
    let c = leb (down e) (2 ^ low f) in
    let d = ltb (suc m * up e) (2 ^ suc (emax f) * down e) in
    (ltb→lt (suc m) (2 ^ prec f) (and_r a b (and_l (a && b) c (and_l (a && b && c) d h))), ltb→lt (suc m * up e) (2 ^ suc (emax f) * down e) (and_r (a && b && c) d h))

-- a value that the format holds rounds to itself
pub round_itself : (f : Format) (s : Bool) (m : ℕ) (e : ℤ) → T (fits f (fin s m e)) → round f s (m * up e) (down e) ≡ fin s m e
round_itself f s m e h = value_unique f (round f s (m * up e) (down e)) (fin s m e) s (m * up e) (down e) (down_pos e) (round-fits f s (m * up e) (down e)) h exact (refl, refl)
  where
    j : (j : ℕ) × (up e * 2 ^ low f ≡ 2 ^ j * down e)
    j = in_units (low f) e (coarse f s m e h)

    units_of_lem : (k : ℕ) → k * up e * 2 ^ low f ≡ k * 2 ^ j.0 * down e
    units_of_lem k = mul_assoc k (up e) (2 ^ low f) ∙ ap (λ (z : ℕ). k * z) j.1 ∙ sym (mul_assoc k (2 ^ j.0) (down e))

    small : (k : ℕ) → T (fits f (fin s k e)) → k < 2 ^ prec f
    small zero h = pow_pos (prec f)
    small (suc k) h = (digits f s k e h).0

    -- below 2 ^ (emax + 1), in units
    fine : (k : ℕ) → T (fits f (fin s k e)) → k * 2 ^ j.0 < 2 ^ (low f + suc (emax f))
    fine zero h = omega (arith, zero-mul (2 ^ j.0), pow_pos (low f + suc (emax f)))
    fine (suc k) h =
        lt_of_mul-lt-mul_right (down e)
        (rw (← units_of_lem (suc k), pow-add 2 (low f) (suc (emax f)), mul_comm (2 ^ low f) (2 ^ suc (emax f)), mul_right_comm (2 ^ suc (emax f)) (2 ^ low f) (down e))
        (mul-lt-mul_of_pos_right (digits f s k e h).1 (pow_pos (low f))))

    exact : HasValue (round f s (m * up e) (down e)) s (m * up e) (down e)
    exact = round_exact f s (m * up e) (down e) m j.0 (down_pos e) (small m h) (fine m h) (units_of_lem m)
