-- Whole numbers up to 2 ^ 53 as doubles: they compare as the numbers do, and the greater less the lesser is not rounded. Assumes nothing.
use Prim.Native.Nat.{ℕ, ◌-◌, ◌*◌, ◌^◌, ◌≤◌, ◌<◌}
use native.Mathlib.Nat.{mul_comm, mul_assoc, mul-one, mul-sub, mul-pos, mul-lt-mul_of_pos_right, lt_of_mul-lt-mul_right}
use native.Mathlib.Omega.{arith}
use mathlib.Core.Path.{◌≡◌, refl, sym, ap, ap₂, ◌∙◌}
use mathlib.Core.Bool.{false, not}
use lib.Dec.{ltb, leb, ltb→lt, lt→ltb, leb→le, le→leb, nltb→le, not_T}
use lib.Ieee.{Float, nan, inf, fin, binary64, up, down, lt, le, sub, sum, is_nan}
use lib.Ieee.Fits.{down_pos}
use lib.Ieee.Exact.{HasValue}
use lib.Ieee.Back.{round_whole}
use lib.Ieee.Scale.{round_same}
use Rattle.reals.specs.Constants.{whole}
use Rattle.reals.proofs.Truth.{same, is_false, table1}
use Rattle.reals.proofs.FloatOrder.{lt_opposite}

whole_value : (n : ℕ) → n ≤ 2 ^ 53 → HasValue (whole n) false n 1
whole_value n h = round_whole binary64 false n h

-- x over p is the whole number a: over p q it is x q
over_both : (x p q a : ℕ) → x * 1 ≡ a * p → x * q ≡ a * (p * q)
over_both x p q a e = ap (λ (z : ℕ). z * q) (sym (mul-one x) ∙ e) ∙ mul_assoc a p q

-- ---- order
module _ (x y p q a b : ℕ) (P : 0 < p) (Q : 0 < q) (e : x * 1 ≡ a * p) (f : y * 1 ≡ b * q) where
  first : x * q ≡ a * (p * q)
  first = over_both x p q a e

  second : y * p ≡ b * (p * q)
  second = over_both y q p b f ∙ ap (λ (z : ℕ). b * z) (mul_comm q p)

  cross : ltb (x * q) (y * p) ≡ ltb a b
  cross = rw (first, second) (same _ _ (λ t. lt→ltb _ _ (lt_of_mul-lt-mul_right (p * q) (ltb→lt _ _ t))) (λ t. lt→ltb _ _ (mul-lt-mul_of_pos_right (ltb→lt _ _ t) (mul-pos P Q))))

  -- the difference over p q
  cross_sub : (x * q - y * p) * 1 ≡ (a - b) * (p * q)
  cross_sub = mul-one (x * q - y * p) ∙ ap₂ (λ (i j : ℕ). i - j) (first ∙ mul_comm a (p * q)) (second ∙ mul_comm b (p * q)) ∙ sym (mul-sub (p * q) a b) ∙ mul_comm (p * q) (a - b)

lt_values : (x y : Float) (a b : ℕ) → HasValue x false a 1 → HasValue y false b 1 → lt x y ≡ ltb a b
unfolding lt
lt_values nan y a b h k = absurd h
lt_values (inf s) y a b h k = absurd h
lt_values (fin s m e) nan a b h k = absurd k
lt_values (fin s m e) (inf t) a b h k = absurd k
lt_values (fin s m e) (fin t n d) a b h k = rw (h.0, k.0) (cross (m * up e) (n * up d) (down e) (down d) a b (down_pos e) (down_pos d) h.1 k.1)

number : (x : Float) (a : ℕ) → HasValue x false a 1 → is_nan x ≡ false
unfolding is_nan
number nan a h = absurd h
number (inf s) a h = absurd h
number (fin s m e) a h = refl

not_below : (a b : ℕ) → b ≤ a → ltb a b ≡ false
not_below a b l = is_false (ltb a b) (λ t. omega (arith, ltb→lt a b t, l))

pub whole_le : (a b : ℕ) → a ≤ 2 ^ 53 → b ≤ 2 ^ 53 → le (whole a) (whole b) ≡ leb a b
whole_le a b h k =
    table1 (λ c. c) (λ c. not (not c)) tt (le (whole a) (whole b))
    ∙ ap not
    (sym (lt_opposite (whole b) (whole a) (number (whole b) b (whole_value b k)) (number (whole a) a (whole_value a h)))
    ∙ lt_values (whole b) (whole a) b a (whole_value b k) (whole_value a h))
    ∙ same _ _ (λ t. le→leb a b (nltb→le b a t)) (λ t. not_T (ltb b a) (λ u. omega (arith, ltb→lt b a u, leb→le a b t)))

-- ---- the greater less the lesser
sub_values : (x y : Float) (a b : ℕ) → b ≤ a → HasValue x false a 1 → HasValue y false b 1 → sub binary64 x y ≡ whole (a - b)
unfolding sub sum
sub_values nan y a b l h k = absurd h
sub_values (inf s) y a b l h k = absurd h
sub_values (fin s m e) nan a b l h k = absurd k
sub_values (fin s m e) (inf t) a b l h k = absurd k
sub_values (fin s m e) (fin t n d) a b l h k =
    rw (h.0, k.0, cross (m * up e) (n * up d) (down e) (down d) a b (down_pos e) (down_pos d) h.1 k.1, not_below a b l)
    (round_same binary64 false (m * up e * down d - n * up d * down e) (down e * down d) (a - b) 1 (mul-pos (down_pos e) (down_pos d)) (omega arith)
    (cross_sub (m * up e) (n * up d) (down e) (down d) a b (down_pos e) (down_pos d) h.1 k.1))

pub whole_sub : (a b : ℕ) → a ≤ 2 ^ 53 → b ≤ a → sub binary64 (whole a) (whole b) ≡ whole (a - b)
whole_sub a b h l = sub_values (whole a) (whole b) a b l (whole_value a h) (whole_value b (omega (arith, h, l)))
