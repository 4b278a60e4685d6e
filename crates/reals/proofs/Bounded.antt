-- How large a result of a few steps can be: sums, products, quotients, choices and limited lines of numbers within whole-number bounds are within such bounds.
-- No error is worked out: before rounding a result is at most its bound, and rounding carries no number past one that the format holds. Assumes nothing.
use Prim.Native.Nat.{ℕ, suc, ◌+◌, ◌-◌, ◌*◌, ◌^◌, ◌≤◌, ◌<◌}
use native.Mathlib.Nat.{le_trans, le_of_eq, lt_of_lt_of_le, mul_comm, mul_assoc, mul_left_comm, mul_right_comm, add-mul, mul-one, zero-mul, mul-pos, mul-le-mul_right, mul-lt-mul_of_pos_right, le_of_mul-le-mul_right}
use native.Mathlib.Omega.{arith}
use mathlib.Core.Path.{◌≡◌, sym, ◌∙◌}
use mathlib.Core.Bool.{Bool, true, false, ◌&&◌, beq, cond}
use lib.Dec.{T, ltb, eqb, eqb→eq}
use lib.Pow.{pow-add, pow_pos, pow_mono}
use lib.Ieee.{Float, nan, inf, fin, Format, binary32, binary64, prec, emax, low, up, down, unlike, round, neg, add, sub, mul, div, sum, le, lt, is_nan}
use lib.Ieee.Fits.{down_pos}
use lib.Ieee.Exact.{HasValue, round_exact}
use lib.Ieee.Order.{round_mono}
use lib.Ieee.Scale.{finite}
use Rattle.reals.specs.Limits.{clamp}
use Rattle.reals.specs.Line.{buildings_line}
use Rattle.reals.specs.Order.{greater, lesser}
use Rattle.reals.specs.Switch.{switch}
use Rattle.reals.proofs.Between.{clamp_above, clamp_below}
use Rattle.reals.proofs.FloatOrder.{to_most}
use Rattle.reals.proofs.Round.{plain, round_plain, neg_round}
use Rattle.reals.proofs.Truth.{is_false}

-- x is finite, and at most b in size
abbrev pub Within : ℕ → Float → Type 0
Within b nan = ⊥
Within b (inf s) = ⊥
Within b (fin s m e) = m * up e ≤ b * down e

-- x is finite, and at least a quarter in size
abbrev pub AtLeastQuarter : Float → Type 0
AtLeastQuarter nan = ⊥
AtLeastQuarter (inf s) = ⊥
AtLeastQuarter (fin s m e) = down e ≤ 4 * (m * up e)

-- a number within a bound is finite
pub within_finite : (b : ℕ) (x : Float) → Within b x → T (finite x)
within_finite b nan h = absurd h
within_finite b (inf s) h = absurd h
within_finite b (fin s m e) h = tt

-- a number within a bound is within a larger one
pub within_wider : (b c : ℕ) (x : Float) → b ≤ c → Within b x → Within c x
within_wider b c nan l h = h
within_wider b c (inf s) l h = h
within_wider b c (fin s m e) l h = le_trans h (mul-le-mul_right (down e) l)

within_neg : (b : ℕ) (x : Float) → Within b x → Within b (neg x)
unfolding neg
within_neg b nan h = h
within_neg b (inf s) h = h
within_neg b (fin s m e) h = h

-- ---- what stands between two numbers within a bound is within it
smaller : (b x y dx dy : ℕ) → 0 < dy → x * dy ≤ y * dx → y ≤ b * dy → x ≤ b * dx
smaller b x y dx dy D h l = le_of_mul-le-mul_right (le_trans h (le_trans (mul-le-mul_right dx l) (le_of_eq (mul_right_comm b dy dx)))) D

within_between : (b : ℕ) (lo x hi : Float) → Within b lo → Within b hi → T (le lo x) → T (le x hi) → Within b x
unfolding le
within_between b nan x hi h k l r = absurd h
within_between b (inf s) x hi h k l r = absurd h
within_between b (fin s m e) x nan h k l r = absurd k
within_between b (fin s m e) x (inf t) h k l r = absurd k
within_between b (fin s m e) nan (fin t n d) h k l r = absurd l
within_between b (fin s m e) (inf true) (fin t n d) h k l r = absurd l
within_between b (fin s m e) (inf false) (fin t n d) h k l r = absurd r
within_between b (fin s m e) (fin false i j) (fin false n d) h k l r =
    smaller b (i * up j) (n * up d) (down j) (down d) (down_pos d) (to_most false false (i * up j * down d) (n * up d * down j) r) k
within_between b (fin s m e) (fin false i j) (fin true n d) h k l r =
    let z : i * up j * down d + n * up d * down j ≤ 0 = to_most false true (i * up j * down d) (n * up d * down j) r in
    smaller b (i * up j) (n * up d) (down j) (down d) (down_pos d) (omega (arith, z)) k
within_between b (fin false m e) (fin true i j) (fin t n d) h k l r =
    let z : m * up e * down j + i * up j * down e ≤ 0 = to_most false true (m * up e * down j) (i * up j * down e) l in
    smaller b (i * up j) (m * up e) (down j) (down e) (down_pos e) (omega (arith, z)) h
within_between b (fin true m e) (fin true i j) (fin t n d) h k l r =
    smaller b (i * up j) (m * up e) (down j) (down e) (down_pos e) (to_most true true (m * up e * down j) (i * up j * down e) l) h

-- a signal limited to two numbers within a bound is within it, a NaN or an infinity too
pub clamp_within : (b : ℕ) (u min max : Float) → Within b min → Within b max → T (le min max) → Within b (clamp u min max)
clamp_within b u min max h k l = within_between b min (clamp u min max) max h k (clamp_above u min max l) (clamp_below u min max l)

-- ---- a choice of two numbers within a bound is within it, whatever the test says
cond_within : (b : ℕ) (c : Bool) (x y : Float) → Within b x → Within b y → Within b (cond c x y)
cond_within b true x y h k = h
cond_within b false x y h k = k

-- a switch between two
pub switch_within : (b : ℕ) (c : Bool) (x y : Float) → Within b x → Within b y → Within b (switch c x y)
unfolding switch
switch_within b c x y h k = cond_within b c x y h k

-- the lesser of two
pub lesser_within : (b : ℕ) (x y : Float) → Within b x → Within b y → Within b (lesser x y)
unfolding lesser
lesser_within b x y h k = switch_within b (is_nan x) y (switch (lt y x) y x) k (switch_within b (lt y x) y x k h)

-- the greater of two
pub greater_within : (b : ℕ) (x y : Float) → Within b x → Within b y → Within b (greater x y)
unfolding greater
greater_within b x y h k = switch_within b (is_nan x) y (switch (lt x y) y x) k (switch_within b (lt x y) y x k h)

-- a format has no more digits than its largest numbers have places before the point
narrow : (f : Format) → prec f ≤ suc (emax f)
narrow binary32 = omega arith
narrow binary64 = omega arith

-- ---- rounding: a fraction that is at most b is within b once rounded, b being a whole number that the format holds with all below it
module _ (f : Format) (b : ℕ) (counted : b < 2 ^ prec f) where
  held : HasValue (round f false b 1) false b 1
  held =
      round_exact f false b 1 b (low f) (omega arith) counted
      (lt_of_lt_of_le (mul-lt-mul_of_pos_right counted (pow_pos (low f)))
      (le_trans (le_of_eq (mul_comm (2 ^ prec f) (2 ^ low f) ∙ sym (pow-add 2 (low f) (prec f)))) (pow_mono (let n = narrow f in omega (arith, n)))))
      (sym (mul-one (b * 2 ^ low f)))

  within_held : (y : Float) → HasValue y false b 1 → Within b y
  within_held nan v = v
  within_held (inf s) v = v
  within_held (fin s m e) v = le_of_eq (sym (mul-one (m * up e)) ∙ v.1)

  within_plain : (x y : Float) → T (plain x) → Within b y → T (le x y) → Within b x
  unfolding le
  within_plain nan y p h l = absurd p
  within_plain (inf true) y p h l = absurd p
  within_plain (inf false) nan p h l = absurd l
  within_plain (inf false) (inf t) p h l = absurd h
  within_plain (inf false) (fin t n d) p h l = absurd l
  within_plain (fin true m e) y p h l = absurd p
  within_plain (fin false m e) nan p h l = absurd h
  within_plain (fin false m e) (inf t) p h l = absurd h
  within_plain (fin false m e) (fin true n d) p h l =
      let z : m * up e * down d + n * up d * down e ≤ 0 = to_most false true (m * up e * down d) (n * up d * down e) l in
      smaller b (m * up e) (n * up d) (down e) (down d) (down_pos d) (omega (arith, z)) h
  within_plain (fin false m e) (fin false n d) p h l =
      smaller b (m * up e) (n * up d) (down e) (down d) (down_pos d) (to_most false false (m * up e * down d) (n * up d * down e) l) h

  clear_within : (a c : ℕ) → 0 < c → a ≤ b * c → Within b (round f false a c)
  clear_within a c C h =
      within_plain (round f false a c) (round f false b 1) (round_plain f a c) (within_held (round f false b 1) held)
      (round_mono f a c b 1 C (omega arith) (le_trans (le_of_eq (mul-one a)) h))

  round_within : (s : Bool) (a c : ℕ) → 0 < c → a ≤ b * c → Within b (round f s a c)
  round_within false a c C h = clear_within a c C h
  round_within true a c C h = rw (neg_round f a c) (within_neg b (round f false a c) (clear_within a c C h))

  -- ---- one operation
  -- a sum of a number within p and one within q is within p + q
  pub add_within : (p q : ℕ) (x y : Float) → Within p x → Within q y → p + q ≤ b → Within b (add f x y)
  unfolding add sum
  add_within p q nan y h k l = absurd h
  add_within p q (inf s) y h k l = absurd h
  add_within p q (fin s m e) nan h k l = absurd k
  add_within p q (fin s m e) (inf t) h k l = absurd k
  add_within p q (fin s m e) (fin t n d) h k l = go (beq s t) (ltb (m * up e * down d) (n * up d * down e))
    where
      whole : m * up e * down d + n * up d * down e ≤ b * (down e * down d)
      whole =
          let i : p * down e * down d ≡ p * (down e * down d) = mul_assoc p (down e) (down d) in
          let j : q * down d * down e ≡ q * (down e * down d) = simp (mul_assoc, mul_comm) in
          let z : (p + q) * (down e * down d) ≡ p * (down e * down d) + q * (down e * down d) = add-mul p q (down e * down d) in
          omega (arith, i, j, z, mul-le-mul_right (down d) h, mul-le-mul_right (down e) k, mul-le-mul_right (down e * down d) l)

      part : (s : Bool) (w : ℕ) → w ≤ m * up e * down d + n * up d * down e → Within b (round f s w (down e * down d))
      part s w u = round_within s w (down e * down d) (mul-pos (down_pos e) (down_pos d)) (le_trans u whole)

      go : (p q : Bool)
          → Within b (cond p (round f s (m * up e * down d + n * up d * down e) (down e * down d)) (cond q (round f t (n * up d * down e - m * up e * down d) (down e * down d)) (round f (s && ltb (n * up d * down e) (m * up e * down d)) (m * up e * down d - n * up d * down e) (down e * down d))))
      go true q = part s (m * up e * down d + n * up d * down e) (omega arith)
      go false true = part t (n * up d * down e - m * up e * down d) (omega arith)
      go false false = part (s && ltb (n * up d * down e) (m * up e * down d)) (m * up e * down d - n * up d * down e) (omega arith)

  -- their difference is within p + q too
  pub sub_within : (p q : ℕ) (x y : Float) → Within p x → Within q y → p + q ≤ b → Within b (sub f x y)
  unfolding sub
  sub_within p q x y h k l = add_within p q x (neg y) h (within_neg q y k) l

  -- their product is within p times q
  pub mul_within : (p q : ℕ) (x y : Float) → Within p x → Within q y → p * q ≤ b → Within b (mul f x y)
  unfolding mul
  mul_within p q nan y h k l = absurd h
  mul_within p q (inf s) y h k l = absurd h
  mul_within p q (fin s m e) nan h k l = absurd k
  mul_within p q (fin s m e) (inf t) h k l = absurd k
  mul_within p q (fin s m e) (fin t n d) h k l =
      round_within (unlike s t) (m * up e * (n * up d)) (down e * down d) (mul-pos (down_pos e) (down_pos d))
      (let i : p * down e * (n * up d) ≡ n * up d * (p * down e) = mul_comm (p * down e) (n * up d) in
      let j : q * down d * (p * down e) ≡ p * q * (down e * down d) = simp (mul_assoc, mul_left_comm, mul_comm) in
      omega (arith, i, j, mul-le-mul_right (n * up d) h, mul-le-mul_right (p * down e) k, mul-le-mul_right (down e * down d) l))

  -- a number within p, divided by one of at least a quarter, is within 4 times p
  pub div_within : (p : ℕ) (x y : Float) → Within p x → AtLeastQuarter y → 4 * p ≤ b → Within b (div f x y)
  unfolding div
  div_within p nan y h k l = absurd h
  div_within p (inf s) y h k l = absurd h
  div_within p (fin s m e) nan h k l = absurd k
  div_within p (fin s m e) (inf t) h k l = absurd k
  div_within p (fin s m e) (fin t n d) h k l =
      rw not_zero
      (round_within (unlike s t) (m * up e * down d) (n * up d * down e) (mul-pos above (down_pos e))
      (let i : p * down e * down d ≡ down d * (p * down e) = mul_comm (p * down e) (down d) in
      let j : 4 * (n * up d) * (p * down e) ≡ 4 * p * (n * up d * down e) = simp (mul_assoc, mul_left_comm, mul_comm) in
      omega (arith, i, j, mul-le-mul_right (down d) h, mul-le-mul_right (p * down e) k, mul-le-mul_right (n * up d * down e) l)))
    where
      large : down d ≤ 4 * (n * up d)
      large = k

      above : 0 < n * up d
      above = omega (arith, large, down_pos d)

      not_zero : eqb n 0 ≡ false
      not_zero = is_false (eqb n 0) (λ z. let w : 0 < 0 * up d = rw (eqb→eq n 0 z) at above in omega (arith, w, zero-mul (up d)))

-- ---- a limited line
-- Through (x1, f1) and (x2, f2), with x1 and x2 within 1 and at least a quarter apart, it stays within 17 times the bound of f1 and f2,
-- whatever the signal is, a NaN or an infinity too.
pub line_within : (b : ℕ) (x1 f1 x2 f2 u : Float) → 17 * b < 2 ^ prec binary64
    → Within 1 x1 → Within b f1 → Within 1 x2 → Within b f2 → T (le x1 x2) → AtLeastQuarter (sub binary64 x2 x1) → Within (17 * b) (buildings_line x1 f1 x2 f2 u)
unfolding buildings_line
line_within b x1 f1 x2 f2 u counted h1 k1 h2 k2 l quarter =
    let slope = div binary64 (sub binary64 f2 f1) (sub binary64 x2 x1) in
    let a : Within (8 * b) slope =
    div_within binary64 (8 * b) (omega (arith, counted)) (2 * b) (sub binary64 f2 f1) (sub binary64 x2 x1)
    (sub_within binary64 (2 * b) (omega (arith, counted)) b b f2 f1 k2 k1 (omega arith)) quarter (omega arith) in
    let times : (x : Float) → Within 1 x → Within (8 * b) (mul binary64 slope x) =
    λ x h. mul_within binary64 (8 * b) (omega (arith, counted)) (8 * b) 1 slope x a h (omega arith) in
    add_within binary64 (17 * b) counted (9 * b) (8 * b) (sub binary64 f2 (mul binary64 slope x2)) (mul binary64 slope (clamp u x1 x2))
    (sub_within binary64 (9 * b) (omega (arith, counted)) b (8 * b) f2 (mul binary64 slope x2) k2 (times x2 h2) (omega arith))
    (times (clamp u x1 x2) (clamp_within 1 u x1 x2 h1 h2 l)) (omega arith)
