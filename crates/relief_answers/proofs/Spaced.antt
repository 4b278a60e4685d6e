-- Rows more than 300 / 511 s apart are never refused for a full window. Times are counted in units of the smallest float, as whole numbers. Assumes nothing.
use Prim.Native.Nat.{ℕ, zero, suc, ◌+◌, ◌-◌, ◌*◌, ◌/◌, ◌^◌, ◌≤◌, ◌<◌, suc-le-suc}
use native.Mathlib.Nat.{le_refl, lt_of_not-le, mul_assoc, mul_right_comm, mul-pos, mul-le-mul_right, le_of_mul-le-mul_right}
use native.Mathlib.Omega.{arith}
use mathlib.Core.Path.{◌≡◌, refl, sym, ap, ap₂, ◌∙◌}
use mathlib.Core.Bool.{Bool, true, false, not, ◌&&◌, cond}
use mathlib.Core.List.{List, [], ◌∷◌, map}
use lib.IntN.{ℤ}
use lib.Dec.{T, eqb, leb→le, ltb→lt, eqb→eq}
use lib.Pow.{pow_pos}
use lib.ListN.{length}
use lib.Ieee.{Float, nan, inf, fin, binary64, up, down, le, lt, eq, sub, fits, of_bits}
use lib.Ieee.Fits.{down_pos, and_l, and_r}
use lib.Ieee.Order.{round_mono}
use Rattle.reals.specs.Sign.{is_time, is_sign_negative}
use Rattle.reals.proofs.FloatOrder.{to_most, of_most, lt_excludes}
use Rattle.reals.proofs.Round.{coarse, in_units, round_itself}
use Rattle.reals.proofs.Truth.{is_true, is_false}
use Rattle.moving_average.specs.Past.{from, different_before, different, window_is_full}
use Rattle.moving_average.specs.Constants.{delta}
use Rattle.refusals.specs.declared.Refusal.TheVariants.{AlarmOutOfRange, WindowFull}
use Rattle.refusals.specs.Refusals.{verdict_or_refused}
use Rattle.refusals.proofs.Accepting.{no_more}
use Rattle.past.specs.Acceptance.{verdict_after}
use Rattle.relief_fan_group.specs.declared.types.ReliefRow.{ReliefRow}
use Rattle.relief_fans.specs.Alarms.{alarms_fit}
use Rattle.relief_fan_group.specs.Verdict.{numbers_finite, after_judged}
use Rattle.relief_fan_group.specs.Reading.{time_of_row, verdict_of}
use Rattle.relief_answers.specs.Latches.{taken}
use Rattle.relief_answers.specs.Spacing.{spacing_pattern, spacing, apart_by}
use Rattle.relief_answers.proofs.Runs.{gap_is, sub_mul}

-- ---- numbers in units of 2 ^ −l, of which a float is a whole number where l is large enough
module _ (l : ℕ) where
  module _ (m n : ℕ) (e d : ℤ) (u w : ℕ) (a : m * up e * 2 ^ l ≡ u * down e) (b : n * up d * 2 ^ l ≡ w * down d) where
    left : m * up e * down d * 2 ^ l ≡ u * (down e * down d)
    left = mul_right_comm (m * up e) (down d) (2 ^ l) ∙ ap (λ (z : ℕ). z * down d) a ∙ mul_assoc u (down e) (down d)

    right : n * up d * down e * 2 ^ l ≡ w * (down e * down d)
    right = mul_right_comm (n * up d) (down e) (2 ^ l) ∙ ap (λ (z : ℕ). z * down e) b ∙ mul_right_comm w (down d) (down e) ∙ mul_assoc w (down e) (down d)

    units_le : u ≤ w → m * up e * down d ≤ n * up d * down e
    units_le h = le_of_mul-le-mul_right (rw (left, right) (mul-le-mul_right (down e * down d) h)) (pow_pos l)

    units_back : m * up e * down d ≤ n * up d * down e → u ≤ w
    units_back h = le_of_mul-le-mul_right (rw (← left, ← right) (mul-le-mul_right (2 ^ l) h)) (mul-pos (down_pos e) (down_pos d))

  -- x is not negative, and u units large
  abbrev In : Float → ℕ → Type 0
  In nan u = ⊥
  In (inf s) u = ⊥
  In (fin true m e) u = ⊥
  In (fin false m e) u = m * up e * 2 ^ l ≡ u * down e

  le_from : (x y : Float) (u w : ℕ) → In x u → In y w → u ≤ w → T (le x y)
  unfolding le
  le_from nan y u w a b h = absurd a
  le_from (inf s) y u w a b h = absurd a
  le_from (fin true m e) y u w a b h = absurd a
  le_from (fin false m e) nan u w a b h = absurd b
  le_from (fin false m e) (inf s) u w a b h = absurd b
  le_from (fin false m e) (fin true n d) u w a b h = absurd b
  le_from (fin false m e) (fin false n d) u w a b h = of_most false false (m * up e * down d) (n * up d * down e) (units_le m n e d u w a b h)

  le_back : (x y : Float) (u w : ℕ) → In x u → In y w → T (le x y) → u ≤ w
  unfolding le
  le_back nan y u w a b h = absurd a
  le_back (inf s) y u w a b h = absurd a
  le_back (fin true m e) y u w a b h = absurd a
  le_back (fin false m e) nan u w a b h = absurd b
  le_back (fin false m e) (inf s) u w a b h = absurd b
  le_back (fin false m e) (fin true n d) u w a b h = absurd b
  le_back (fin false m e) (fin false n d) u w a b h = units_back m n e d u w a b (to_most false false (m * up e * down d) (n * up d * down e) h)

  -- a gap in units is the difference of the units
  gap_units : (m n : ℕ) (e d : ℤ) (u w : ℕ) → m * up e * 2 ^ l ≡ u * down e → n * up d * 2 ^ l ≡ w * down d
      → (m * up e * down d - n * up d * down e) * 2 ^ l ≡ (u - w) * (down e * down d)
  gap_units m n e d u w a b = sub_mul (m * up e * down d) (n * up d * down e) (2 ^ l) ∙ ap₂ (λ (i j : ℕ). i - j) (left m n e d u w a b) (right m n e d u w a b) ∙ sym (sub_mul u w (down e * down d))

  cross_le : (N D u K z g : ℕ) → N * 2 ^ l ≡ u * D → K * 2 ^ l ≡ g * z → u ≤ g → N * z ≤ K * D
  cross_le N D u K z g a b h =
      le_of_mul-le-mul_right
      (let i : N * z * 2 ^ l ≡ u * (D * z) = mul_right_comm N z (2 ^ l) ∙ ap (λ (x : ℕ). x * z) a ∙ mul_assoc u D z in
      let j : K * D * 2 ^ l ≡ g * (D * z) = mul_right_comm K D (2 ^ l) ∙ ap (λ (x : ℕ). x * D) b ∙ mul_right_comm g z D ∙ mul_assoc g D z in
      rw (i, j) (mul-le-mul_right (D * z) h)) (pow_pos l)

  cross_ge : (N D u K z g : ℕ) → N * 2 ^ l ≡ u * D → K * 2 ^ l ≡ g * z → g ≤ u → K * D ≤ N * z
  cross_ge N D u K z g a b h = cross_le K z g N D u b a h

  -- times whose rounded gap is above y are apart by the units of y at least
  apart : (t p y : Float) (a b g : ℕ) → In t a → In p b → In y g → T (fits binary64 y) → T (le p t)
      → T (lt y (sub binary64 t p)) → b + g ≤ a
  apart nan p y a b g A B G f k h = absurd A
  apart (inf s) p y a b g A B G f k h = absurd A
  apart (fin true m e) p y a b g A B G f k h = absurd A
  apart (fin false m e) nan y a b g A B G f k h = absurd B
  apart (fin false m e) (inf s) y a b g A B G f k h = absurd B
  apart (fin false m e) (fin true n d) y a b g A B G f k h = absurd B
  apart (fin false m e) (fin false n d) nan a b g A B G f k h = absurd G
  apart (fin false m e) (fin false n d) (inf s) a b g A B G f k h = absurd G
  apart (fin false m e) (fin false n d) (fin true i z) a b g A B G f k h = absurd G
  apart (fin false m e) (fin false n d) (fin false i z) a b g A B G f k h =
      let before : b ≤ a = le_back (fin false n d) (fin false m e) b a B A k in
      let not_near : a - b ≤ g → ⊥ = λ (c : a - b ≤ g). lt_excludes (fin false i z) (sub binary64 (fin false m e) (fin false n d)) h (near c) in
      let far : g < a - b = lt_of_not-le not_near in
      omega (arith, before, far)
    where
      near : a - b ≤ g → T (le (sub binary64 (fin false m e) (fin false n d)) (fin false i z))
      near c =
          rw (gap_is m n e d k, ← round_itself binary64 false i z f)
          (round_mono binary64 (m * up e * down d - n * up d * down e) (down e * down d) (i * up z) (down z) (mul-pos (down_pos e) (down_pos d)) (down_pos z)
          (cross_le (m * up e * down d - n * up d * down e) (down e * down d) (a - b) (i * up z) (down z) g (gap_units m n e d a b A B) G c))

  -- a time that is earlier than t by the units of q is not after t − q, rounded
  reached : (t p q : Float) (a b g : ℕ) → In t a → In p b → In q g → T (fits binary64 p) → b + g ≤ a
      → T (le p (sub binary64 t q))
  reached nan p q a b g A B G f h = absurd A
  reached (inf s) p q a b g A B G f h = absurd A
  reached (fin true m e) p q a b g A B G f h = absurd A
  reached (fin false m e) nan q a b g A B G f h = absurd B
  reached (fin false m e) (inf s) q a b g A B G f h = absurd B
  reached (fin false m e) (fin true n d) q a b g A B G f h = absurd B
  reached (fin false m e) (fin false n d) nan a b g A B G f h = absurd G
  reached (fin false m e) (fin false n d) (inf s) a b g A B G f h = absurd G
  reached (fin false m e) (fin false n d) (fin true i z) a b g A B G f h = absurd G
  reached (fin false m e) (fin false n d) (fin false i z) a b g A B G f h =
      let k : T (le (fin false i z) (fin false m e)) = le_from (fin false i z) (fin false m e) g a G A (omega arith) in
      rw (gap_is m i e z k, ← round_itself binary64 false n d f)
      (round_mono binary64 (n * up d) (down d) (m * up e * down z - i * up z * down e) (down e * down z) (down_pos d) (mul-pos (down_pos e) (down_pos z))
      (cross_ge (m * up e * down z - i * up z * down e) (down e * down z) (a - g) (n * up d) (down d) b (gap_units m i e z a g A G) B (omega arith)))

-- ---- the units of all that is compared: y, the spacing, is gy units and q, the window's length, gq
record Scale (l : ℕ) : Type 0 where
  y : Float
  q : Float
  gy : ℕ
  gq : ℕ
  y_in : In l y gy
  q_in : In l q gq
  y_fits : T (fits binary64 y)
  units_of_lem : (x : Float) → T (is_time x) → T (fits binary64 x) → (u : ℕ) × In l x u

abbrev times : ℕ → ℕ → ℕ
times zero g = 0
times (suc k) g = g + times k g

module _ (l : ℕ) (r : Scale l) where
  -- ---- times that are apart by more than y
  apart_time : (t : Float) (h : List Float) → T (apart_by r.y (t ∷ h)) → T (is_time t) × T (fits binary64 t)
  apart_time t [] w = (and_l (is_time t) (fits binary64 t) w, and_r (is_time t) (fits binary64 t) w)
  apart_time t (p ∷ h) w =
      let z = and_l (is_time t && fits binary64 t) (le p t && lt r.y (sub binary64 t p)) (and_l (is_time t && fits binary64 t && (le p t && lt r.y (sub binary64 t p))) (apart_by r.y (p ∷ h)) w) in
      (and_l (is_time t) (fits binary64 t) z, and_r (is_time t) (fits binary64 t) z)

  apart_gap : (t p : Float) (h : List Float) → T (apart_by r.y (t ∷ (p ∷ h))) → T (le p t)
      × T (lt r.y (sub binary64 t p))
  apart_gap t p h w =
      let z = and_r (is_time t && fits binary64 t) (le p t && lt r.y (sub binary64 t p)) (and_l (is_time t && fits binary64 t && (le p t && lt r.y (sub binary64 t p))) (apart_by r.y (p ∷ h)) w) in
      (and_l (le p t) (lt r.y (sub binary64 t p)) z, and_r (le p t) (lt r.y (sub binary64 t p)) z)

  apart_rest : (t p : Float) (h : List Float) → T (apart_by r.y (t ∷ (p ∷ h))) → T (apart_by r.y (p ∷ h))
  apart_rest t p h w = and_r (is_time t && fits binary64 t && (le p t && lt r.y (sub binary64 t p))) (apart_by r.y (p ∷ h)) w

  unit : (t : Float) (h : List Float) → T (apart_by r.y (t ∷ h)) → (u : ℕ) × In l t u
  unit t h w = let z = apart_time t h w in r.units_of_lem t z.0 z.1

  closer : (t p : Float) (h : List Float) → T (apart_by r.y (t ∷ (p ∷ h))) → (a b : ℕ) → In l t a → In l p b
      → b + r.gy ≤ a
  closer t p h w a b A B = let z = apart_gap t p h w in apart l t p r.y a b r.gy A B r.y_in r.y_fits z.0 z.1

  -- the times from the last at or before t − q on: where p is at most k spacings too late to be the last, at most k + 1
  module _ (t : Float) (a : ℕ) (A : In l t a) where
    from_length : (k : ℕ) (p : Float) (h : List Float) → T (apart_by r.y (p ∷ h)) → (b : ℕ) → In l p b
        → b + r.gq ≤ a + times k r.gy → length (from (sub binary64 t r.q) (p ∷ h)) ≤ suc k
    unfolding from
    from_length zero p h w b B n =
        rw (is_true (le p (sub binary64 t r.q)) (reached l t p r.q a b r.gq A B r.q_in (apart_time p h w).1 (omega arith))) (le_refl 1)
    from_length (suc k) p [] w b B n = go (le p (sub binary64 t r.q))
      where
        go : (c : Bool) → length (cond c (p ∷ []) (p ∷ [])) ≤ suc (suc k)
        go true = omega arith
        go false = omega arith
    from_length (suc k) p (v ∷ h) w b B n =
        let u = unit v h (apart_rest p v h w) in
        let near : u.0 + r.gy ≤ b = closer p v h w b u.0 B u.1 in
        go (le p (sub binary64 t r.q)) (from_length k v h (apart_rest p v h w) u.0 u.1 (omega (arith, near)))
      where
        go : (c : Bool) → length (from (sub binary64 t r.q) (v ∷ h)) ≤ suc k
            → length (cond c (p ∷ []) (p ∷ from (sub binary64 t r.q) (v ∷ h))) ≤ suc (suc k)
        go true z = omega arith
        go false z = omega (arith, z)

  -- so 511 spacings that reach q leave fewer than 512
  few_points : r.gq ≤ times 511 r.gy → (t : Float) (h : List Float) → T (apart_by r.y (t ∷ h))
      → length (from (sub binary64 t r.q) h) < 512
  few_points e t [] w = unfold from in omega arith
  few_points e t (p ∷ h) w =
      let rest = apart_rest t p h w in
      let a = unit t (p ∷ h) w in
      let b = unit p h rest in
      suc-le-suc (from_length t a.0 a.1 510 p h rest b.0 b.1 (begins r.gq r.gy a.0 b.0 e (closer t p h w a.0 b.0 a.1 b.1)))
    where
      begins : (gq gy a b : ℕ) → gq ≤ times 511 gy → b + gy ≤ a → b + gq ≤ a + times 510 gy
      begins gq gy a b e h = omega (arith, e, h)

different_before_lem : (p : Float) (h : List Float) → length (different_before p h) ≤ length h
unfolding different_before
different_before_lem p [] = le_refl 0
different_before_lem p (t ∷ h) = go (eq t p) (different_before_lem t h)
  where
    go : (c : Bool) → length (different_before t h) ≤ length h
        → length (cond c (different_before t h) (t ∷ different_before t h)) ≤ suc (length h)
    go true z = omega (arith, z)
    go false z = omega (arith, z)

different_length : (h : List Float) → length (different h) ≤ length h
unfolding different
different_length [] = le_refl 0
different_length (t ∷ h) = let z = different_before_lem t h in omega (arith, z)

-- ---- 300 s and 300 / 511 s, in units of 2 ^ −1074
units_in : (x : Float) → T (is_time x) → T (fits binary64 x) → (u : ℕ) × In 1074 x u
unfolding is_sign_negative
units_in nan a f = absurd a
units_in (inf s) a f = absurd a
units_in (fin true m e) a f = absurd a
units_in (fin false m e) a f =
    let j = in_units 1074 e (coarse binary64 false m e f) in
    (m * 2 ^ j.0, mul_assoc m (up e) (2 ^ 1074) ∙ ap (λ (z : ℕ). m * z) j.1 ∙ sym (mul_assoc m (2 ^ j.0) (down e)))

-- how many units a finite number is
abbrev units_of : Float → ℕ
units_of nan = 0
units_of (inf s) = 0
units_of (fin s m e) = m * up e * 2 ^ 1074 / down e

scale : Scale 1074
unfolding fits of_bits
scale = record { y = spacing; q = delta; gy = units_of spacing; gq = units_of delta; y_in = refl; q_in = refl; y_fits = tt; units_of_lem = units_in }

-- 511 times the spacing is at least 300 s
enough : units_of delta ≤ times 511 (units_of spacing)
unfolding of_bits
enough = leb→le (units_of delta) (times 511 (units_of spacing)) tt

-- and 511 times the double below it is not
pub spacing_least : 511 * units_of (of_bits binary64 (spacing_pattern - 1)) < units_of delta
unfolding of_bits
spacing_least = ltb→lt (511 * units_of (of_bits binary64 (spacing_pattern - 1))) (units_of delta) tt

-- ---- a row more than that after the last of rows so spaced finds room
has_room : (t : Float) (h : List Float) → T (apart_by spacing (t ∷ h)) → window_is_full h t ≡ false
unfolding window_is_full scale
has_room t h w = rw (under (length (different window)) (length window) (different_length window) (few_points 1074 scale enough t h w)) refl
  where
    window : List Float
    window = from (sub binary64 t delta) h

    under : (a b : ℕ) → a ≤ b → b < 512 → eqb a 512 ≡ false
    under a b h l = is_false (eqb a 512) (λ e. omega (arith, h, l, eqb→eq a 512 e))

-- for every list of rows, refused ones included: where the times of the accepted rows and of the next one are more than 0.5870841487279844 s apart, that one is not
-- refused with 4: refusals 1, 2, 3 and 11 alone judge it
pub never_full : (x : ReliefRow) (l : List ReliefRow) → T (apart_by spacing (x.time ∷ map time_of_row (taken l)))
    → verdict_of (taken l) x ≡ verdict_or_refused (verdict_after time_of_row numbers_finite (taken l) x) (not (alarms_fit x.alarm)) AlarmOutOfRange
unfolding verdict_of after_judged
never_full x l w =
    rw (has_room x.time (map time_of_row (taken l)) w)
    (no_more (verdict_or_refused (verdict_after time_of_row numbers_finite (taken l) x) (not (alarms_fit x.alarm)) AlarmOutOfRange) WindowFull)
