-- How large a rounded number can be: rounding at most doubles it, and does not carry it past a number that the format holds. Assumes nothing.
use Prim.Native.Nat.{ℕ, zero, suc, ◌+◌, ◌-◌, ◌*◌, ◌/◌, ◌%◌, ◌^◌, ◌≤◌, ◌<◌, compare, Ordering}
use native.Mathlib.Nat.{le_trans, le_of_eq, lt_of_mul-lt-mul_right, mul_comm, mul_assoc, mul_left_comm, mul_right_comm, add-mul, mul-pos, mul-le-mul_right, mul-lt-mul_of_pos_right, le_of_mul-le-mul_right, div-add-mod'}
use native.Mathlib.Omega.{arith}
use mathlib.Core.Path.{◌≡◌, sym, ap, ◌∙◌}
use mathlib.Core.Bool.{Bool, true, false, not, ◌&&◌, beq, cond, true≢false}
use lib.Dec.{T, is_le, ltb, leb, eqb, ltb→lt, nleb→lt}
use lib.IntN.{ℤ}
use lib.Pow.{pow-add, pow_pos}
use lib.Ieee.{Format, Float, nan, inf, fin, up, down, low, emax, prec, nearest, round, add, sum, neg, le, fits}
use lib.Ieee.Fits.{down_pos, nearest-le, and_l, and_r}
use lib.Ieee.Exact.{HasValue, round_exact}
use lib.Ieee.Nearest.{closest}
use lib.Ieee.Order.{drop, round_mono}
use lib.Ieee.Scale.{finite, grid, round_val, round_under}
use Rattle.reals.proofs.FloatOrder.{to_most}
use Rattle.reals.proofs.Round.{plain, round_plain, neg_round, coarse, in_units}

-- ---- a number is at most doubled where it is rounded
closest_double : (a b : ℕ) → closest a b * b ≤ 2 * a
closest_double a b = go (a / b) (compare (a % b * 2) b) (div-add-mod' a b) (nleb→lt (a % b * 2) b)
  where
    once : (q : ℕ) → q * b + a % b ≡ a → q * b ≤ 2 * a
    once q e = omega arith

    go : (q : ℕ) (o : Ordering) → q * b + a % b ≡ a → (T (not (is_le o)) → b < a % b * 2) → nearest q o * b ≤ 2 * a
    go q Ordering.lt e f = once q e
    go zero Ordering.eq e f = omega arith
    go (suc q) Ordering.eq e f = le_trans (mul-le-mul_right b (nearest-le (suc q) Ordering.eq)) (omega arith)
    go q Ordering.gt e f = let g = f tt in omega arith

-- x is finite and at most twice a / c in size
abbrev pub AtMostTwice : Float → ℕ → ℕ → Type 0
AtMostTwice nan a c = ⊥
AtMostTwice (inf s) a c = ⊥
AtMostTwice (fin s m e) a c = m * up e * c ≤ 2 * a * down e

module _ (f : Format) where
  grid_double : (a c : ℕ) → grid f a c * c ≤ 2 * (a * 2 ^ low f)
  grid_double a c =
      let n = a * 2 ^ low f in
      let k = drop (prec f) n c in
      le_trans (le_of_eq (mul_assoc (closest n (c * 2 ^ k)) (2 ^ k) c ∙ ap (λ (z : ℕ). closest n (c * 2 ^ k) * z) (mul_comm (2 ^ k) c))) (closest_double n (c * 2 ^ k))

  twice : (x : Float) (a c g l : ℕ) → 0 < l → HasValue x false g l → g * c ≤ 2 * (a * l) → AtMostTwice x a c
  twice nan a c g l L v h = absurd v
  twice (inf s) a c g l L v h = absurd v
  twice (fin s m e) a c g l L v h =
      le_of_mul-le-mul_right
      (let i : m * up e * c * l ≡ g * c * down e = mul_right_comm (m * up e) c l ∙ ap (λ (z : ℕ). z * c) v.1 ∙ mul_right_comm g (down e) c in
      let j : 2 * (a * l) * down e ≡ 2 * a * down e * l = simp (mul_assoc, mul_comm) in
      omega (arith, i, j, mul-le-mul_right (down e) h)) L

  pub round_double : (a c : ℕ) → T (finite (round f false a c)) → AtMostTwice (round f false a c) a c
  round_double a c t = twice (round f false a c) a c (grid f a c) (2 ^ low f) (pow_pos (low f)) (round_val f a c (round_under f a c t)) (grid_double a c)

  -- ---- x is finite and at most a / c in size
  abbrev pub AtMost : Float → ℕ → ℕ → Type 0
  AtMost nan a c = ⊥
  AtMost (inf s) a c = ⊥
  AtMost (fin s m e) a c = m * up e * c ≤ a * down e

  order : (x y : Float) (a c : ℕ) → T (plain x) → 0 < c → HasValue y false a c → T (le x y) → AtMost x a c
  unfolding le
  order nan y a c p C v l = absurd p
  order (inf true) y a c p C v l = absurd p
  order (inf false) nan a c p C v l = absurd l
  order (inf false) (inf t) a c p C v l = absurd v
  order (inf false) (fin t n d) a c p C v l = absurd l
  order (fin true m e) y a c p C v l = absurd p
  order (fin false m e) nan a c p C v l = absurd l
  order (fin false m e) (inf t) a c p C v l = absurd v
  order (fin false m e) (fin true n d) a c p C v l = absurd (true≢false v.0)
  order (fin false m e) (fin false n d) a c p C v l =
      le_of_mul-le-mul_right
      (let i : m * up e * c * down d ≡ m * up e * down d * c = mul_right_comm (m * up e) c (down d) in
      let j : n * up d * down e * c ≡ a * down e * down d = mul_right_comm (n * up d) (down e) c ∙ ap (λ (z : ℕ). z * down e) v.1 ∙ mul_right_comm a (down d) (down e) in
      omega (arith, i, j, mul-le-mul_right c (to_most false false (m * up e * down d) (n * up d * down e) l))) (down_pos d)

  -- a fraction rounded is at most one that the format holds, where it was
  pub under : (w b a c : ℕ) → 0 < b → 0 < c → HasValue (round f false a c) false a c → w * c ≤ a * b
      → AtMost (round f false w b) a c
  under w b a c B C v h = order (round f false w b) (round f false a c) a c (round_plain f w b) C v (round_mono f w b a c B C h)

  -- what the format holds is held after doubling k times too, as long as that does not overflow
  pub scaled : (k n : ℕ) (d : ℤ) → T (fits f (fin false n d)) → 2 ^ k * (n * up d) < 2 ^ suc (emax f) * down d
      → HasValue (round f false (2 ^ k * (n * up d)) (down d)) false (2 ^ k * (n * up d)) (down d)
  scaled k n d h l = round_exact f false (2 ^ k * (n * up d)) (down d) n (j.0 + k) (down_pos d) (few n h) below same
    where
      j : (j : ℕ) × (up d * 2 ^ low f ≡ 2 ^ j * down d)
      j = in_units (low f) d (coarse f false n d h)

      few : (n : ℕ) → T (fits f (fin false n d)) → n < 2 ^ prec f
      few zero h = pow_pos (prec f)
      few (suc n) h = unfold fits in ltb→lt (suc n) (2 ^ prec f)
          (and_r (eqb (suc n % 2) 1) (ltb (suc n) (2 ^ prec f)) (and_l (eqb (suc n % 2) 1 && ltb (suc n) (2 ^ prec f)) (leb (down d) (2 ^ low f))
          (and_l (eqb (suc n % 2) 1 && ltb (suc n) (2 ^ prec f) && leb (down d) (2 ^ low f)) (ltb (suc n * up d) (2 ^ suc (emax f) * down d)) h)))

      same : 2 ^ k * (n * up d) * 2 ^ low f ≡ n * 2 ^ (j.0 + k) * down d
      same =
          let a : 2 ^ k * (n * up d) * 2 ^ low f ≡ 2 ^ k * n * (up d * 2 ^ low f) = simp (mul_assoc, mul_left_comm, mul_comm) in
          let b : 2 ^ k * n * (2 ^ j.0 * down d) ≡ n * (2 ^ j.0 * 2 ^ k) * down d = simp (mul_assoc, mul_left_comm, mul_comm) in
          a ∙ ap (λ (z : ℕ). 2 ^ k * n * z) j.1 ∙ b ∙ ap (λ (z : ℕ). n * z * down d) (sym (pow-add 2 j.0 k))

      below : n * 2 ^ (j.0 + k) < 2 ^ (low f + suc (emax f))
      below =
          lt_of_mul-lt-mul_right (down d)
          (rw (← same, pow-add 2 (low f) (suc (emax f)), mul_comm (2 ^ low f) (2 ^ suc (emax f)), mul_right_comm (2 ^ suc (emax f)) (2 ^ low f) (down d))
          (mul-lt-mul_of_pos_right l (pow_pos (low f))))

  -- ---- the same with a sign
  pub turned : (x : Float) (a c : ℕ) → AtMost x a c → AtMost (neg x) a c
  unfolding neg
  turned nan a c h = h
  turned (inf s) a c h = h
  turned (fin s m e) a c h = h

  under_signed : (s : Bool) (w b a c : ℕ) → 0 < b → 0 < c → HasValue (round f false a c) false a c → w * c ≤ a * b
      → AtMost (round f s w b) a c
  under_signed false w b a c B C v h = under w b a c B C v h
  under_signed true w b a c B C v h = rw (neg_round f w b) (turned (round f false w b) a c (under w b a c B C v h))

  -- ---- a sum: where x is at most a / c and y at most a' / c' in size, and both fractions together at most A / C, so is x + y
  cross : (x y dx dy a c a' c' A C : ℕ) → 0 < c → 0 < c' → x * c ≤ a * dx → y * c' ≤ a' * dy
      → a * c' * C + a' * c * C ≤ A * (c * c') → (x * dy + y * dx) * C ≤ A * (dx * dy)
  cross x y dx dy a c a' c' A C P Q h k l =
      le_of_mul-le-mul_right
      (let i : (x * dy + y * dx) * C * (c * c') ≡ x * c * (dy * C * c') + y * c' * (dx * C * c) = rw (add-mul (x * dy) (y * dx) C, add-mul (x * dy * C) (y * dx * C) (c * c')) (simp (mul_assoc, mul_left_comm, mul_comm)) in
      let j : a * dx * (dy * C * c') + a' * dy * (dx * C * c) ≡ (a * c' * C + a' * c * C) * (dx * dy) = rw (add-mul (a * c' * C) (a' * c * C) (dx * dy)) (simp (mul_assoc, mul_left_comm, mul_comm)) in
      let z : A * (dx * dy) * (c * c') ≡ A * (c * c') * (dx * dy) = mul_right_comm A (dx * dy) (c * c') in
      omega (arith, i, j, z, mul-le-mul_right (dy * C * c') h, mul-le-mul_right (dx * C * c) k, mul-le-mul_right (dx * dy) l)) (mul-pos P Q)

  pub plus_bounded : (x y : Float) (a c a' c' A C : ℕ) → 0 < c → 0 < c' → 0 < C → AtMost x a c → AtMost y a' c'
      → a * c' * C + a' * c * C ≤ A * (c * c') → HasValue (round f false A C) false A C → AtMost (add f x y) A C
  unfolding add sum
  plus_bounded nan y a c a' c' A C P Q R h k l v = absurd h
  plus_bounded (inf s) y a c a' c' A C P Q R h k l v = absurd h
  plus_bounded (fin s m e) nan a c a' c' A C P Q R h k l v = absurd k
  plus_bounded (fin s m e) (inf t) a c a' c' A C P Q R h k l v = absurd k
  plus_bounded (fin s m e) (fin t n d) a c a' c' A C P Q R h k l v = go (beq s t) (ltb (m * up e * down d) (n * up d * down e))
    where
      b : ℕ
      b = down e * down d

      whole : (m * up e * down d + n * up d * down e) * C ≤ A * (down e * down d)
      whole = cross (m * up e) (n * up d) (down e) (down d) a c a' c' A C P Q h k l

      part : (w : ℕ) → w ≤ m * up e * down d + n * up d * down e → (z : Bool)
          → AtMost (round f z w (down e * down d)) A C
      part w u z = under_signed z w (down e * down d) A C (mul-pos (down_pos e) (down_pos d)) R v (le_trans (mul-le-mul_right C u) whole)

      go : (p q : Bool)
          → AtMost (cond p (round f s (m * up e * down d + n * up d * down e) (down e * down d)) (cond q (round f t (n * up d * down e - m * up e * down d) (down e * down d)) (round f (s && ltb (n * up d * down e) (m * up e * down d)) (m * up e * down d - n * up d * down e) (down e * down d)))) A C
      go true q = part (m * up e * down d + n * up d * down e) (omega arith) s
      go false true = part (n * up d * down e - m * up e * down d) (omega arith) t
      go false false = part (m * up e * down d - n * up d * down e) (omega arith) (s && ltb (n * up d * down e) (m * up e * down d))
