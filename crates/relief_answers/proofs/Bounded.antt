-- Pressures and times below which the sum of pressure times gap stays finite, for lists of any length. Assumes nothing.
use Prim.Native.Nat.{ℕ, suc, ◌+◌, ◌-◌, ◌*◌, ◌^◌, ◌≤◌, ◌<◌}
use native.Mathlib.Nat.{le_of_eq, mul_comm, mul_assoc, mul_left_comm, mul_right_comm, mul-add, mul-one, one-mul, zero-mul, mul-pos, mul-le-mul_right, mul-lt-mul_of_pos_right, le_of_mul-le-mul_right}
use native.Mathlib.Omega.{arith}
use mathlib.Core.Path.{◌≡◌, refl, sym, ap, ap₂, ◌∙◌}
use mathlib.Core.Bool.{Bool, true, false, ◌&&◌}
use mathlib.Core.List.{List, [], ◌∷◌}
use lib.Dec.{T, ltb→lt}
use lib.IntN.{pos}
use lib.Ieee.{Float, nan, inf, fin, binary64, up, down, emax, round, add, sub, mul, le, fits, unlike, of_bits}
use lib.Ieee.Fits.{down_pos, and_l, and_r}
use lib.Ieee.Exact.{HasValue}
use lib.Ieee.Scale.{finite}
use Rattle.reals.specs.Constants.{plus_zero}
use Rattle.reals.specs.Sign.{is_sign_negative, is_time, abs}
use Rattle.reals.proofs.FloatOrder.{to_most, le_nan}
use Rattle.reals.proofs.Round.{plain, round_plain, neg_round, zero_is}
use Rattle.reals.proofs.Times.{gap_finite, self_gap}
use Rattle.past.specs.Stepped.{in_order}
use Rattle.past.proofs.Stepped.{order_here, time_here, finite_here}
use Rattle.relief_fan_group.specs.declared.types.ReliefRow.{ReliefRow}
use Rattle.relief_fan_group.specs.Reading.{Past, time_of_row}
use Rattle.relief_fan_group.proofs.Blocks.{before}
use Rattle.relief_answers.specs.Latches.{taken}
use Rattle.relief_answers.specs.Sum.{pressure_sum, pressure_bound, time_bound, modest, all_modest}
use Rattle.relief_answers.proofs.Runs.{gap_is, not_below_itself}
use Rattle.relief_answers.proofs.Latches.{taken_in_order}
use Rattle.relief_answers.proofs.Magnitude.{AtMostTwice, AtMost, round_double, under, scaled, turned, plus_bounded}

-- ---- one row: pressures up to K / 4 keep the sum within K times the time, where K is 2 ^ k
module _ (k : ℕ) where
  -- the pressure p is at most K / 4 in size
  abbrev Small : Float → Type 0
  Small nan = ⊥
  Small (inf s) = ⊥
  Small (fin s m e) = 4 * (m * up e) ≤ 2 ^ k * down e

  -- K times the time does not overflow
  abbrev Early : Float → Type 0
  Early nan = ⊥
  Early (inf s) = ⊥
  Early (fin s n d) = 2 ^ k * (n * up d) < 2 ^ suc (emax binary64) * down d

  -- the sum x is at most K times the time in size
  abbrev Within : Float → Float → Type 0
  Within x nan = ⊥
  Within x (inf s) = ⊥
  Within x (fin s n d) = AtMost binary64 x (2 ^ k * (n * up d)) (down d)

  -- K times the earlier time Y / u, and K times the gap to the later one X / v, make K times the later one
  module _ (K X Y u v : ℕ) (earlier : Y * v ≤ X * u) where
    together : K * Y * (v * u) * v + K * (X * u - Y * v) * u * v ≤ K * X * (u * (v * u))
    together =
        let i : K * Y * (v * u) * v ≡ K * u * v * (Y * v) = simp (mul_assoc, mul_left_comm, mul_comm) in
        let j : K * (X * u - Y * v) * u * v ≡ K * u * v * (X * u - Y * v) = simp (mul_assoc, mul_comm) in
        let l : K * X * (u * (v * u)) ≡ K * u * v * (X * u) = simp (mul_assoc, mul_left_comm, mul_comm) in
        let z : K * u * v * (Y * v) + K * u * v * (X * u - Y * v) ≡ K * u * v * (Y * v + (X * u - Y * v)) = sym (mul-add (K * u * v) (Y * v) (X * u - Y * v)) in
        let w : Y * v + (X * u - Y * v) ≡ X * u = omega arith in
        le_of_eq (ap₂ (λ (a b : ℕ). a + b) i j ∙ z ∙ ap (λ (a : ℕ). K * u * v * a) w ∙ sym l)

  -- a pressure P / dp of at most K / 4, times a gap q / dq of at most twice N / D, is at most half of K N / D
  product : (P dp q dq N D : ℕ) → 4 * P ≤ 2 ^ k * dp → q * D ≤ 2 * N * dq → 2 * (P * q) * D ≤ 2 ^ k * N * (dp * dq)
  product P dp q dq N D h l =
      let i : 2 * (P * q) * D ≡ 2 * P * (q * D) = simp (mul_assoc) in
      let j : 2 * N * dq * (2 * P) ≡ 4 * P * (N * dq) = twos N dq P in
      let z : 2 ^ k * dp * (N * dq) ≡ 2 ^ k * N * (dp * dq) = simp (mul_assoc, mul_left_comm, mul_comm) in
      let c : 2 * P * (q * D) ≡ q * D * (2 * P) = mul_comm (2 * P) (q * D) in
      omega (arith, i, j, z, c, mul-le-mul_right (2 * P) l, mul-le-mul_right (N * dq) h)
    where
      twos : (N dq P : ℕ) → 2 * N * dq * (2 * P) ≡ 4 * P * (N * dq)
      twos N dq P =
          let a : 2 * N * dq * (2 * P) ≡ 2 * 2 * (P * (N * dq)) = simp (mul_assoc, mul_left_comm, mul_comm) in
          a ∙ sym (mul_assoc 4 P (N * dq))

  at_most_finite : (x : Float) (a c : ℕ) → AtMost binary64 x a c → T (finite x)
  at_most_finite nan a c h = absurd h
  at_most_finite (inf s) a c h = absurd h
  at_most_finite (fin s m e) a c h = tt

  halved : (x : Float) (w b a D : ℕ) → 0 < b → AtMostTwice x w b → 2 * w * D ≤ a * b → AtMost binary64 x a D
  halved nan w b a D B h l = absurd h
  halved (inf s) w b a D B h l = absurd h
  halved (fin s m e) w b a D B h l =
      le_of_mul-le-mul_right
      (let i : m * up e * D * b ≡ m * up e * b * D = mul_right_comm (m * up e) D b in
      let j : 2 * w * down e * D ≡ 2 * w * D * down e = mul_right_comm (2 * w) (down e) D in
      let z : a * b * down e ≡ a * down e * b = mul_right_comm a b (down e) in
      omega (arith, i, j, z, mul-le-mul_right D h, mul-le-mul_right (down e) l)) B

  room : (w b N D A C : ℕ) → 0 < D → 2 * w * D ≤ 2 ^ k * N * b → 2 ^ k * N * C ≤ A * D → w * C ≤ A * b
  room w b N D A C P h l =
      le_of_mul-le-mul_right
      (let i : w * C * D + w * C * D ≡ 2 * w * D * C = twice_is w C D in
      let j : 2 ^ k * N * b * C ≡ 2 ^ k * N * C * b = mul_right_comm (2 ^ k * N) b C in
      let z : A * D * b ≡ A * b * D = mul_right_comm A D b in
      omega (arith, i, j, z, mul-le-mul_right C h, mul-le-mul_right b l)) P
    where
      twice_is : (w C D : ℕ) → w * C * D + w * C * D ≡ 2 * w * D * C
      twice_is w C D =
          let a : 2 * w * D * C ≡ 2 * (w * C * D) = simp (mul_assoc, mul_comm) in
          omega (arith, a)

  -- so their product, rounded, is at most K times the gap
  times_bounded : (p g : Float) (N D A C : ℕ) → 0 < D → 0 < C → Small p → T (plain g) → AtMostTwice g N D
      → 2 ^ k * N * C ≤ A * D → HasValue (round binary64 false A C) false A C
      → AtMost binary64 (mul binary64 p g) (2 ^ k * N) D
  unfolding mul
  times_bounded nan g N D A C P Q s h t l v = absurd s
  times_bounded (inf r) g N D A C P Q s h t l v = absurd s
  times_bounded (fin r m e) nan N D A C P Q s h t l v = absurd t
  times_bounded (fin r m e) (inf z) N D A C P Q s h t l v = absurd t
  times_bounded (fin r m e) (fin true q j) N D A C P Q s h t l v = absurd h
  times_bounded (fin r m e) (fin false q j) N D A C P Q s h t l v = go (unlike r false)
    where
      w : ℕ
      w = m * up e * (q * up j)

      b : ℕ
      b = down e * down j

      B : 0 < down e * down j
      B = mul-pos (down_pos e) (down_pos j)

      half_of : 2 * (m * up e * (q * up j)) * D ≤ 2 ^ k * N * (down e * down j)
      half_of = product (m * up e) (down e) (q * up j) (down j) N D s t

      ended : T (finite (round binary64 false (m * up e * (q * up j)) (down e * down j)))
      ended = at_most_finite (round binary64 false (m * up e * (q * up j)) (down e * down j)) A C
          (under binary64 (m * up e * (q * up j)) (down e * down j) A C B Q v (room (m * up e * (q * up j)) (down e * down j) N D A C P half_of l))

      clear : AtMost binary64 (round binary64 false (m * up e * (q * up j)) (down e * down j)) (2 ^ k * N) D
      clear = halved (round binary64 false (m * up e * (q * up j)) (down e * down j)) (m * up e * (q * up j)) (down e * down j) (2 ^ k * N) D B
          (round_double binary64 (m * up e * (q * up j)) (down e * down j) ended) half_of

      go : (z : Bool) → AtMost binary64 (round binary64 z (m * up e * (q * up j)) (down e * down j)) (2 ^ k * N) D
      go false = clear
      go true = rw (neg_round binary64 (m * up e * (q * up j)) (down e * down j)) (turned binary64 (round binary64 false (m * up e * (q * up j)) (down e * down j)) (2 ^ k * N) D clear)

  less_than_all : (K X Y u v : ℕ) → K * (X * u - Y * v) * v ≤ K * X * (v * u)
  less_than_all K X Y u v =
      let i : K * (X * u - Y * v) * v ≡ (X * u - Y * v) * (K * v) = simp (mul_assoc, mul_left_comm, mul_comm) in
      let j : K * X * (v * u) ≡ X * u * (K * v) = simp (mul_assoc, mul_left_comm, mul_comm) in
      let l : X * u - Y * v ≤ X * u = omega arith in
      omega (arith, i, j, mul-le-mul_right (K * v) l)

  -- one more row keeps the sum within K times the time
  sum_within : (mu p t t' : Float) → T (is_time t) → T (is_time t') → T (le t t') → T (fits binary64 t') → Early t'
      → Small p → Within mu t → Within (add binary64 mu (mul binary64 p (sub binary64 t' t))) t'
  unfolding is_sign_negative
  sum_within mu p nan t' a b l f early small h = absurd a
  sum_within mu p (inf s) t' a b l f early small h = absurd a
  sum_within mu p (fin true n d) t' a b l f early small h = absurd a
  sum_within mu p (fin false n d) nan a b l f early small h = absurd b
  sum_within mu p (fin false n d) (inf s) a b l f early small h = absurd b
  sum_within mu p (fin false n d) (fin true n' d') a b l f early small h = absurd b
  sum_within mu p (fin false n d) (fin false n' d') a b l f early small h =
      plus_bounded binary64 mu (mul binary64 p (sub binary64 (fin false n' d') (fin false n d))) (2 ^ k * (n * up d)) (down d) (2 ^ k * N) D (2 ^ k * (n' * up d')) (down d')
      (down_pos d) (mul-pos (down_pos d') (down_pos d)) (down_pos d') h part
      (together (2 ^ k) (n' * up d') (n * up d) (down d) (down d') earlier) exact
    where
      N : ℕ
      N = n' * up d' * down d - n * up d * down d'

      D : ℕ
      D = down d' * down d

      earlier : n * up d * down d' ≤ n' * up d' * down d
      earlier = unfold le in to_most false false (n * up d * down d') (n' * up d' * down d) l

      exact : HasValue (round binary64 false (2 ^ k * (n' * up d')) (down d')) false (2 ^ k * (n' * up d')) (down d')
      exact = scaled binary64 k n' d' f early

      gap : sub binary64 (fin false n' d') (fin false n d) ≡ round binary64 false N D
      gap = gap_is n' n d' d l

      whole : T (finite (round binary64 false N D))
      whole = rw gap at (gap_finite (fin false n' d') (fin false n d) tt tt f l)

      part : AtMost binary64 (mul binary64 p (sub binary64 (fin false n' d') (fin false n d))) (2 ^ k * N) D
      part = rw gap (times_bounded p (round binary64 false N D) N D (2 ^ k * (n' * up d')) (down d') (mul-pos (down_pos d') (down_pos d)) (down_pos d') small (round_plain binary64 N D) (round_double binary64 N D whole)
          (less_than_all (2 ^ k) (n' * up d') (n * up d) (down d) (down d')) exact)

-- ---- the bounds of specs/Sum.antt, with 2 ^ 902 for K
pressure_bound_is : pressure_bound ≡ fin false 1 (pos 900)
unfolding of_bits
pressure_bound_is = refl

time_bound_is : time_bound ≡ fin false 1 (pos 100)
unfolding of_bits
time_bound_is = refl

four_times : (x k d : ℕ) → x * 1 ≤ 1 * k * d → 4 * x ≤ 4 * k * d
four_times x k d h =
    let i : 4 * k * d ≡ 4 * (1 * k * d) = mul_assoc 4 k d ∙ ap (λ (z : ℕ). 4 * (z * d)) (sym (one-mul k)) in
    omega (arith, i, h)

small : (p : Float) → T (le (abs p) pressure_bound) → Small 902 p
unfolding abs
small nan h = absurd (rw (le_nan pressure_bound).0 at h)
small (inf s) h = unfold le in absurd (rw pressure_bound_is at h)
small (fin s m e) h = four_times (m * up e) (2 ^ 900) (down e) (unfold le in to_most false false (m * up e * 1) (1 * 2 ^ 900 * down e) (rw pressure_bound_is at h))

early_enough : (K B W x d : ℕ) → 0 < d → K * B < W → x * 1 ≤ 1 * B * d → K * x < W * d
early_enough K B W x d D h l =
    let i : x * 1 * K ≡ K * x = ap (λ (z : ℕ). z * K) (mul-one x) ∙ mul_comm x K in
    let j : 1 * B * d * K ≡ K * B * d = ap (λ (z : ℕ). z * d * K) (one-mul B) ∙ mul_comm (B * d) K ∙ sym (mul_assoc K B d) in
    omega (arith, i, j, mul-le-mul_right K l, mul-lt-mul_of_pos_right h D)

early : (t : Float) → T (is_time t) → T (le t time_bound) → Early 902 t
unfolding is_sign_negative
early nan a h = absurd a
early (inf s) a h = absurd a
early (fin true n d) a h = absurd a
early (fin false n d) a h = early_enough (2 ^ 902) (2 ^ 100) (2 ^ 1024) (n * up d) (down d) (down_pos d) (ltb→lt (2 ^ 902 * 2 ^ 100) (2 ^ 1024) tt) (unfold le in to_most false false (n * up d * 1) (1 * 2 ^ 100 * down d) (rw time_bound_is at h))

-- ---- every list of which the accepted rows are so, however long: the sum is finite
zero_within : (t : Float) → T (is_time t) → Within 902 plus_zero t
unfolding is_sign_negative
zero_within nan a = absurd a
zero_within (inf s) a = absurd a
zero_within (fin s n d) a = rw zero_is (zero_below (down d) (2 ^ 902 * (n * up d)))
  where
    zero_below : (c a : ℕ) → 0 * 1 * c ≤ a * 1
    zero_below c a = rw (zero-mul c) (omega arith)

within_finite : (x t : Float) → Within 902 x t → T (finite x)
within_finite x nan h = absurd h
within_finite x (inf s) h = absurd h
within_finite x (fin s n d) h = at_most_finite 902 x (2 ^ 902 * (n * up d)) (down d) h

-- one more row, whose gap is to the time p of the row before
one_row : (x : ReliefRow) (sum p : Float) → T (modest x) → T (is_time x.time) → T (is_time p) → T (le p x.time)
    → Within 902 sum p
    → Within 902 (add binary64 sum (mul binary64 x.pressure (sub binary64 x.time p))) x.time
one_row x sum p m a b l w =
    let rest = and_r (fits binary64 x.time) (le (abs x.pressure) pressure_bound && le x.time time_bound) m in
    sum_within 902 sum x.pressure p x.time b a l (and_l (fits binary64 x.time) (le (abs x.pressure) pressure_bound && le x.time time_bound) m)
    (early x.time a (and_r (le (abs x.pressure) pressure_bound) (le x.time time_bound) rest))
    (small x.pressure (and_l (le (abs x.pressure) pressure_bound) (le x.time time_bound) rest)) w

within : (x : ReliefRow) (h : Past) → T (in_order time_of_row (x ∷ h)) → T (all_modest (x ∷ h))
    → Within 902 (pressure_sum (x ∷ h)) x.time
unfolding pressure_sum
within x [] o m =
    let a = time_here time_of_row x [] o in
    rw (self_gap x.time (finite_here time_of_row x [] o)) at
    (one_row x plus_zero x.time (and_l (modest x) true m) a a (not_below_itself x.time a) (zero_within x.time a))
within x (y ∷ h) o m =
    let r = before x (y ∷ h) o in
    one_row x (pressure_sum (y ∷ h)) y.time (and_l (modest x) (all_modest (y ∷ h)) m) (time_here time_of_row x (y ∷ h) o) (time_here time_of_row y h r) (order_here time_of_row x (y ∷ h) o)
    (within y h r (and_r (modest x) (all_modest (y ∷ h)) m))

pub never_too_large : (l : List ReliefRow) → T (all_modest (taken l)) → T (finite (pressure_sum (taken l)))
never_too_large l = go (taken l) (taken_in_order l)
  where
    go : (h : Past) → T (in_order time_of_row h) → T (all_modest h) → T (finite (pressure_sum h))
    go [] o m = unfold pressure_sum of_bits in tt
    go (x ∷ h) o m = within_finite (pressure_sum (x ∷ h)) x.time (within x h o m)
