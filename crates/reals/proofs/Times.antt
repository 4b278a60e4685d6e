-- Times and their differences. A time is finite with the sign bit clear, as refusals 1 and 2 leave it. Where a law needs that binary64 holds
-- a number it asks so: every f64 of a program is such a number. Assumes nothing.
use Prim.Native.Nat.{ℕ, ◌+◌, ◌-◌, ◌*◌, ◌^◌, ◌≤◌, ◌<◌}
use native.Mathlib.Nat.{mul_comm, mul_assoc, mul_left_comm, mul_right_comm, mul-one, mul-sub, mul-pos, mul-le-mul_right, mul-lt-mul_of_pos_right, zero-mul, one-mul, zero-add, lt_of_mul-lt-mul_right}
use native.Mathlib.Omega.{arith}
use mathlib.Core.Path.{◌≡◌, refl, ap, ap₂, ◌∙◌}
use mathlib.Core.Bool.{Bool, true, false, not, cond}
use lib.IntN.{ℤ, negsuc}
use lib.Dec.{T, ltb, ltb→lt, lt→ltb, nltb→le}
use lib.Pow.{pow_pos}
use lib.Ieee.{Float, nan, inf, fin, binary64, up, down, lt, le, neg, add, sub, sum, round, fits, is_nan, low}
use lib.Ieee.Fits.{down_pos}
use lib.Ieee.Order.{round_mono}
use lib.Ieee.Scale.{finite}
use Rattle.reals.specs.Constants.{plus_zero}
use Rattle.reals.specs.Order.{greater}
use Rattle.reals.specs.Sign.{is_sign_negative, is_time}
use Rattle.reals.specs.Switch.{switch}
use Rattle.reals.proofs.Truth.{is_true, is_false}
use Rattle.reals.proofs.FloatOrder.{to_most, le_lt, le→not-lt}
use Rattle.reals.proofs.Round.{plain, round_plain, neg_round, neg_order, neg_below, under_finite, zero_is, plain_not_below, zero_rounds, coarse, in_units, round_itself}

abbrev minus : Float → Float → Float
minus x y = sub binary64 x y

-- ---- a plain number is not cut at 0
pub greater_plain : (x : Float) → T (plain x) → greater x plus_zero ≡ x
unfolding greater is_nan switch
greater_plain nan h = absurd h
greater_plain (inf s) h = rw (plain_not_below (inf s) h) refl
greater_plain (fin s m e) h = rw (plain_not_below (fin s m e) h) refl

-- ---- t − p for times p ≤ t: the later less the earlier
gap_is : (m n : ℕ) (e d : ℤ) → T (le (fin false n d) (fin false m e)) → minus (fin false m e) (fin false n d) ≡ round binary64 false (m * up e * down d - n * up d * down e) (down e * down d)
unfolding sub sum lt
gap_is m n e d l = let c : ltb (m * up e * down d) (n * up d * down e) ≡ false = le→not-lt (fin false m e) (fin false n d) l in rw c refl

pub gap_plain : (t p : Float) → T (is_time t) → T (is_time p) → T (le p t) → T (plain (minus t p))
unfolding is_sign_negative
gap_plain nan p a b l = absurd a
gap_plain (inf s) p a b l = absurd a
gap_plain (fin true m e) p a b l = absurd a
gap_plain (fin false m e) nan a b l = absurd b
gap_plain (fin false m e) (inf t) a b l = absurd b
gap_plain (fin false m e) (fin true n d) a b l = absurd b
gap_plain (fin false m e) (fin false n d) a b l = rw (gap_is m n e d l) (round_plain binary64 (m * up e * down d - n * up d * down e) (down e * down d))

pub gap_kept : (t p : Float) → T (is_time t) → T (is_time p) → T (le p t) → greater (minus t p) plus_zero ≡ minus t p
gap_kept t p a b l = greater_plain (minus t p) (gap_plain t p a b l)

pub gap_finite : (t p : Float) → T (is_time t) → T (is_time p) → T (fits binary64 t) → T (le p t) → T (finite (minus t p))
unfolding is_sign_negative
gap_finite nan p a b f l = absurd a
gap_finite (inf s) p a b f l = absurd a
gap_finite (fin true m e) p a b f l = absurd a
gap_finite (fin false m e) nan a b f l = absurd b
gap_finite (fin false m e) (inf t) a b f l = absurd b
gap_finite (fin false m e) (fin true n d) a b f l = absurd b
gap_finite (fin false m e) (fin false n d) a b f l =
    under_finite (minus (fin false m e) (fin false n d)) (fin false m e) (gap_plain (fin false m e) (fin false n d) a b l) tt
    (rw (gap_is m n e d l, ← round_itself binary64 false m e f)
    (round_mono binary64 (m * up e * down d - n * up d * down e) (down e * down d) (m * up e) (down e) (mul-pos (down_pos e) (down_pos d)) (down_pos e)
    (rw (mul_comm (down e) (down d), ← mul_assoc (m * up e) (down d) (down e)) (mul-le-mul_right (down e) (omega arith)))))

-- ---- t − t is +0
not_below_self : (a : ℕ) → ltb a a ≡ false
not_below_self a = is_false (ltb a a) (λ h. omega (arith, ltb→lt a a h))

pub self_gap : (t : Float) → T (finite t) → minus t t ≡ plus_zero
unfolding sub sum
self_gap nan h = absurd h
self_gap (inf s) h = absurd h
self_gap (fin true m e) h = rw (not_below_self (m * up e * down e)) (zero_rounds (m * up e * down e) (down e * down e) (mul-pos (down_pos e) (down_pos e)))
self_gap (fin false m e) h = rw (not_below_self (m * up e * down e)) (zero_rounds (m * up e * down e) (down e * down e) (mul-pos (down_pos e) (down_pos e)))

-- ---- 0 + x is x, for x not negative
pub zero_plus : (x : Float) → T (plain x) → T (fits binary64 x) → add binary64 plus_zero x ≡ x
unfolding sum
zero_plus nan h f = absurd h
zero_plus (inf true) h f = absurd h
zero_plus (inf false) h f = rw zero_is (unfold add in refl)
zero_plus (fin true m e) h f = absurd h
zero_plus (fin false m e) h f =
    rw zero_is
    (unfold add in
    (rw (zero-mul (down e), mul-one (m * up e), zero-add (m * up e), one-mul (down e)) (round_itself binary64 false m e f)))

sub_mul : (a b k : ℕ) → (a - b) * k ≡ a * k - b * k
sub_mul a b k = mul_comm (a - b) k ∙ mul-sub k a b ∙ ap₂ (λ (i j : ℕ). i - j) (mul_comm k a) (mul_comm k b)

-- ---- x / p ≤ y / q, each less z / r, are in order
module _ (x y z p q r : ℕ) (P : 0 < p) (Q : 0 < q) (R : 0 < r) (ordered : x * q ≤ y * p) where
  -- over the common denominator p q r r
  common : x * r * (q * r) ≤ y * r * (p * r)
  common =
      let a : x * r * (q * r) ≡ x * q * (r * r) = simp (mul_assoc, mul_left_comm) in
      let b : y * r * (p * r) ≡ y * p * (r * r) = simp (mul_assoc, mul_left_comm) in
      omega (arith, mul-le-mul_right (r * r) ordered)

  level_z : z * p * (q * r) ≡ z * q * (p * r)
  level_z = simp (mul_assoc, mul_left_comm)

  both_below : T (le (neg (round binary64 false (z * p - x * r) (p * r))) (neg (round binary64 false (z * q - y * r) (q * r))))
  both_below =
      neg_order (round binary64 false (z * q - y * r) (q * r)) (round binary64 false (z * p - x * r) (p * r)) (round_plain binary64 (z * q - y * r) (q * r)) (round_plain binary64 (z * p - x * r) (p * r))
      (round_mono binary64 (z * q - y * r) (q * r) (z * p - x * r) (p * r) (mul-pos Q R) (mul-pos P R)
      (rw (sub_mul (z * q) (y * r) (p * r), sub_mul (z * p) (x * r) (q * r)) (omega (arith, common, level_z))))

  both_above : T (le (round binary64 false (x * r - z * p) (p * r)) (round binary64 false (y * r - z * q) (q * r)))
  both_above =
      round_mono binary64 (x * r - z * p) (p * r) (y * r - z * q) (q * r) (mul-pos P R) (mul-pos Q R)
      (rw (sub_mul (x * r) (z * p) (q * r), sub_mul (y * r) (z * q) (p * r)) (omega (arith, common, level_z)))

  no_crossing : T (not (ltb (x * r) (z * p))) → T (ltb (y * r) (z * q)) → ⊥
  no_crossing h k = omega (arith, common, level_z, mul-le-mul_right (q * r) (nltb→le (x * r) (z * p) h), mul-lt-mul_of_pos_right (ltb→lt (y * r) (z * q) k) (mul-pos P R))

  sum_mono : T (le (sum binary64 false (x * r) true (z * p) (p * r)) (sum binary64 false (y * r) true (z * q) (q * r)))
  unfolding sum
  sum_mono = rw (neg_round binary64 (z * p - x * r) (p * r), neg_round binary64 (z * q - y * r) (q * r)) (go (ltb (x * r) (z * p)) (ltb (y * r) (z * q)) no_crossing)
    where
      go : (a b : Bool) → (T (not a) → T b → ⊥)
          → T (le (cond a (neg (round binary64 false (z * p - x * r) (p * r))) (round binary64 false (x * r - z * p) (p * r))) (cond b (neg (round binary64 false (z * q - y * r) (q * r))) (round binary64 false (y * r - z * q) (q * r))))
      go true true n = both_below
      go true false n = neg_below (round binary64 false (z * p - x * r) (p * r)) (round binary64 false (y * r - z * q) (q * r)) (round_plain binary64 (z * p - x * r) (p * r)) (round_plain binary64 (y * r - z * q) (q * r))
      go false true n = absurd (n tt tt)
      go false false n = both_above

-- p ≤ t implies p − q ≤ t − q, q being 300 in the moving average
pub minus_mono : (p t q : Float) → T (is_time p) → T (is_time t) → T (is_time q) → T (le p t) → T (le (minus p q) (minus t q))
unfolding sub le is_sign_negative
minus_mono nan t q a b c l = absurd a
minus_mono (inf s) t q a b c l = absurd a
minus_mono (fin true m e) t q a b c l = absurd a
minus_mono (fin false m e) nan q a b c l = absurd b
minus_mono (fin false m e) (inf s) q a b c l = absurd b
minus_mono (fin false m e) (fin true n d) q a b c l = absurd b
minus_mono (fin false m e) (fin false n d) nan a b c l = absurd c
minus_mono (fin false m e) (fin false n d) (inf s) a b c l = absurd c
minus_mono (fin false m e) (fin false n d) (fin true k g) a b c l = absurd c
minus_mono (fin false m e) (fin false n d) (fin false k g) a b c l = sum_mono (m * up e) (n * up d) (k * up g) (down e) (down d) (down g) (down_pos e) (down_pos d) (down_pos g) (to_most false false (m * up e * down d) (n * up d * down e) l)

-- ---- t − q for times t below q is below every time
-- the two in units of the smallest value differ by one at least
apart : (m n : ℕ) (e d : ℤ) (l : ℕ) → down e ≤ 2 ^ l → down d ≤ 2 ^ l → m * up e * down d < n * up d * down e → 1 * (down e * down d) ≤ (n * up d * down e - m * up e * down d) * 2 ^ l
apart m n e d l E D h =
    let i = in_units l e E in
    let j = in_units l d D in
    let a : m * up e * down d * 2 ^ l ≡ m * 2 ^ i.0 * (down e * down d) =
    mul_right_comm (m * up e) (down d) (2 ^ l) ∙ ap (λ (k : ℕ). k * down d) (mul_assoc m (up e) (2 ^ l) ∙ ap (λ (k : ℕ). m * k) i.1) ∙ simp (mul_assoc) in
    let b : n * up d * down e * 2 ^ l ≡ n * 2 ^ j.0 * (down e * down d) =
    mul_right_comm (n * up d) (down e) (2 ^ l) ∙ ap (λ (k : ℕ). k * down e) (mul_assoc n (up d) (2 ^ l) ∙ ap (λ (k : ℕ). n * k) j.1) ∙ simp (mul_assoc, mul_comm (down d) (down e)) in
    let c : m * 2 ^ i.0 < n * 2 ^ j.0 = lt_of_mul-lt-mul_right (down e * down d) (rw (← a, ← b) (mul-lt-mul_of_pos_right h (pow_pos l))) in
    rw (sub_mul (n * up d * down e) (m * up e * down d) (2 ^ l), a, b, ← sub_mul (n * 2 ^ j.0) (m * 2 ^ i.0) (down e * down d)) (mul-le-mul_right (down e * down d) (omega arith))

-- the negative of the smallest positive value is below every time
abbrev least : Float
least = round binary64 false 1 (2 ^ low binary64)

first_positive : (a b : ℕ) → 0 < a → 0 < 1 * a + b
first_positive a b h = omega arith

under_times : (k : ℕ) (g : ℤ) → T (lt (neg least) (fin false k g))
under_times k g = rw computed (unfold lt neg in lt→ltb 0 (1 * down g + k * up g * 2 ^ 1074) (first_positive (down g) (k * up g * 2 ^ 1074) (down_pos g)))
  where
    computed : least ≡ fin false 1 (negsuc 1073)
    computed = unfold round in refl

pub early : (t q p : Float) → T (is_time t) → T (is_time q) → T (is_time p) → T (fits binary64 t) → T (fits binary64 q) → T (lt t q) → T (lt (minus t q) p)
unfolding is_sign_negative
early nan q p a b c f g l = absurd a
early (inf s) q p a b c f g l = absurd a
early (fin true m e) q p a b c f g l = absurd a
early (fin false m e) nan p a b c f g l = absurd b
early (fin false m e) (inf t) p a b c f g l = absurd b
early (fin false m e) (fin true n d) p a b c f g l = absurd b
early (fin false m e) (fin false n d) nan a b c f g l = absurd c
early (fin false m e) (fin false n d) (inf u) a b c f g l = absurd c
early (fin false m e) (fin false n d) (fin true k h) a b c f g l = absurd c
early (fin false m e) (fin false n d) (fin false k h) a b c f g l = le_lt (minus (fin false m e) (fin false n d)) (neg least) (fin false k h) (rw gap_below below_least) (under_times k h)
  where
    x : ℕ
    x = n * up d * down e - m * up e * down d

    y : ℕ
    y = down e * down d

    earlier : T (ltb (m * up e * down d) (n * up d * down e))
    earlier = unfold lt in l

    gap_below : minus (fin false m e) (fin false n d) ≡ neg (round binary64 false x y)
    gap_below = unfold sub sum in (rw (is_true (ltb (m * up e * down d) (n * up d * down e)) earlier) (neg_round binary64 (n * up d * down e - m * up e * down d) (down e * down d)))

    above_least : T (le least (round binary64 false x y))
    above_least =
        round_mono binary64 1 (2 ^ low binary64) (n * up d * down e - m * up e * down d) (down e * down d) (pow_pos (low binary64)) (mul-pos (down_pos e) (down_pos d))
        (apart m n e d (low binary64) (coarse binary64 false m e f) (coarse binary64 false n d g) (ltb→lt (m * up e * down d) (n * up d * down e) earlier))

    below_least : T (le (neg (round binary64 false x y)) (neg least))
    below_least = neg_order least (round binary64 false x y) (round_plain binary64 1 (2 ^ low binary64)) (round_plain binary64 x y) above_least
