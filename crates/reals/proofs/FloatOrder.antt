-- The order of floats. A NaN compares false, whatever it is compared with; the laws are for all floats unless a number is asked for. Assumes nothing.
use Prim.Native.Nat.{ℕ, ◌+◌, ◌*◌, ◌≤◌, ◌<◌, zero-le}
use native.Mathlib.Nat.{add-mul, mul-le-mul_right, le_of_mul-le-mul_right, mul_right_comm, zero-mul, eq-or-lt_of_le}
use native.Mathlib.Omega.{arith}
use mathlib.Core.Path.{◌≡◌, refl, sym}
use mathlib.Core.Logic.{inl, inr}
use mathlib.Core.Bool.{Bool, true, false, not, ◌&&◌, ◌||◌, true≢false}
use lib.Dec.{T, ltb, eqb, ltb→lt, lt→ltb, eqb→eq, eqb_refl, not_T}
use lib.Ieee.{Float, nan, inf, fin, up, down, below, level, lt, eq, le, ne, is_nan}
use lib.Ieee.Fits.{down_pos, and_i, and_l, and_r, eq→eqb}
use Rattle.reals.proofs.Truth.{is_true, or_l, or_r, either, same, opposite, table1}

-- ---- ±a < ±b and ±a ≤ ±b, as facts of natural numbers
abbrev Below : Bool → ℕ → Bool → ℕ → Type 0
Below false a false b = a < b
Below false a true b = ⊥
Below true a false b = 0 < a + b
Below true a true b = b < a

abbrev AtMost : Bool → ℕ → Bool → ℕ → Type 0
AtMost false a false b = a ≤ b
AtMost false a true b = a + b ≤ 0
AtMost true a false b = Unit {0}
AtMost true a true b = b ≤ a

to_below : (s t : Bool) (a b : ℕ) → T (below s a t b) → Below s a t b
to_below false false a b h = ltb→lt a b h
to_below false true a b h = h
to_below true false a b h = ltb→lt 0 (a + b) h
to_below true true a b h = ltb→lt b a h

of_below : (s t : Bool) (a b : ℕ) → Below s a t b → T (below s a t b)
of_below false false a b h = lt→ltb a b h
of_below false true a b h = h
of_below true false a b h = lt→ltb 0 (a + b) h
of_below true true a b h = lt→ltb b a h

-- the test of `le`
abbrev at_most : Bool → ℕ → Bool → ℕ → Bool
at_most s a t b = below s a t b || level s a t b

pub to_most : (s t : Bool) (a b : ℕ) → T (at_most s a t b) → AtMost s a t b
to_most false false a b h = either (a ≤ b) (ltb a b) (eqb a b && true) h (λ l. omega (arith, ltb→lt a b l)) (λ e. omega (arith, eqb→eq a b (and_l (eqb a b) true e)))
to_most false true a b h = omega (arith, eqb→eq a b (and_l (eqb a b) (eqb a 0) h), eqb→eq a 0 (and_r (eqb a b) (eqb a 0) h))
to_most true false a b h = tt
to_most true true a b h = either (b ≤ a) (ltb b a) (eqb a b && true) h (λ l. omega (arith, ltb→lt b a l)) (λ e. omega (arith, eqb→eq a b (and_l (eqb a b) true e)))

-- both are 0
zeros : (a b : ℕ) → a + b ≤ 0 → T (eqb a b && eqb a 0)
zeros a b h = and_i (eqb a b) (eqb a 0) (eq→eqb {a = a} {b = b} (omega arith)) (eq→eqb {a = a} {b = 0} (omega arith))

pub of_most : (s t : Bool) (a b : ℕ) → AtMost s a t b → T (at_most s a t b)
of_most false false a b h = elim (eq-or-lt_of_le h) [ inl e ↦ or_r (ltb a b) (eqb a b && true) (and_i (eqb a b) true (eq→eqb e) tt) | inr l ↦ or_l (ltb a b) (eqb a b && true) (lt→ltb a b l) ]
of_most false true a b h = zeros a b h
of_most true false a b h = elim (eq-or-lt_of_le (zero-le {n = a + b})) [ inl e ↦ or_r (ltb 0 (a + b)) (eqb a b && eqb a 0) (zeros a b (omega arith)) | inr l ↦ or_l (ltb 0 (a + b)) (eqb a b && eqb a 0) (lt→ltb 0 (a + b) l) ]
of_most true true a b h = elim (eq-or-lt_of_le h) [ inl e ↦ or_r (ltb b a) (eqb a b && true) (and_i (eqb a b) true (eq→eqb (sym e)) tt) | inr l ↦ or_l (ltb b a) (eqb a b && true) (lt→ltb b a l) ]

-- below is not at most the other way round
below_excludes : (s t : Bool) (a b : ℕ) → Below s a t b → AtMost t b s a → ⊥
below_excludes false false a b h k = omega arith
below_excludes false true a b h k = h
below_excludes true false a b h k = omega arith
below_excludes true true a b h k = omega arith

below_else : (s t : Bool) (a b : ℕ) → (AtMost t b s a → ⊥) → Below s a t b
below_else false false a b f = omega (arith, f)
below_else false true a b f = f tt
below_else true false a b f = omega (arith, f)
below_else true true a b f = omega (arith, f)

below_opposite : (s t : Bool) (a b : ℕ) → below s a t b ≡ not (at_most t b s a)
below_opposite s t a b =
    opposite (below s a t b) (at_most t b s a) (λ h k. below_excludes s t a b (to_below s t a b h) (to_most t s b a k))
    (λ f. of_below s t a b (below_else s t a b (λ k. f (of_most t s b a k))))

-- ---- three fractions with signs, ±x / p, ±y / q and ±z / r
scale : (k : ℕ) (s t : Bool) (a b : ℕ) → AtMost s a t b → AtMost s (a * k) t (b * k)
scale k false false a b h = mul-le-mul_right k h
scale k false true a b h = rw (add-mul, zero-mul) at (mul-le-mul_right k h)
scale k true false a b h = tt
scale k true true a b h = mul-le-mul_right k h

unscale : (k : ℕ) → 0 < k → (s t : Bool) (a b : ℕ) → AtMost s (a * k) t (b * k) → AtMost s a t b
unscale k K false false a b h = le_of_mul-le-mul_right h K
unscale k K false true a b h = le_of_mul-le-mul_right (rw (add-mul, zero-mul) h) K
unscale k K true false a b h = tt
unscale k K true true a b h = le_of_mul-le-mul_right h K

most_trans : (s t u : Bool) (a b c : ℕ) → AtMost s a t b → AtMost t b u c → AtMost s a u c
most_trans false false false a b c h k = omega arith
most_trans false false true a b c h k = omega arith
most_trans false true false a b c h k = omega arith
most_trans false true true a b c h k = omega arith
most_trans true t false a b c h k = tt
most_trans true false true a b c h k = omega arith
most_trans true true true a b c h k = omega arith

fractions : (s t u : Bool) (x y z p q r : ℕ) → 0 < q → T (at_most s (x * q) t (y * p)) → T (at_most t (y * r) u (z * q)) → T (at_most s (x * r) u (z * p))
fractions s t u x y z p q r Q h k =
    of_most s u (x * r) (z * p)
    (unscale q Q s u (x * r) (z * p)
    (rw (mul_right_comm x r q, mul_right_comm z p q)
    (most_trans s t u (x * q * r) (y * p * r) (z * q * p) (scale r s t (x * q) (y * p) (to_most s t (x * q) (y * p) h))
    (rw (mul_right_comm y p r) (scale p t u (y * r) (z * q) (to_most t u (y * r) (z * q) k))))))

-- ---- `le` is transitive
pub le_trans : (x y z : Float) → T (le x y) → T (le y z) → T (le x z)
unfolding le
le_trans nan y z h k = absurd h
le_trans (inf s) nan z h k = absurd h
le_trans (fin s m e) nan z h k = absurd h
le_trans (inf s) (inf t) nan h k = absurd k
le_trans (inf true) (inf t) (inf true) h k = tt
le_trans (inf true) (inf t) (inf false) h k = tt
le_trans (inf false) (inf true) (inf u) h k = absurd h
le_trans (inf false) (inf false) (inf u) h k = k
le_trans (inf true) (inf t) (fin u l f) h k = tt
le_trans (inf false) (inf true) (fin u l f) h k = absurd h
le_trans (inf false) (inf false) (fin u l f) h k = absurd k
le_trans (inf s) (fin t n d) nan h k = absurd k
le_trans (inf true) (fin t n d) (inf true) h k = tt
le_trans (inf true) (fin t n d) (inf false) h k = tt
le_trans (inf false) (fin t n d) (inf u) h k = absurd h
le_trans (inf true) (fin t n d) (fin u l f) h k = tt
le_trans (inf false) (fin t n d) (fin u l f) h k = absurd h
le_trans (fin s m e) (inf true) z h k = absurd h
le_trans (fin s m e) (inf false) nan h k = absurd k
le_trans (fin s m e) (inf false) (inf true) h k = absurd k
le_trans (fin s m e) (inf false) (inf false) h k = tt
le_trans (fin s m e) (inf false) (fin u l f) h k = absurd k
le_trans (fin s m e) (fin t n d) nan h k = absurd k
le_trans (fin s m e) (fin t n d) (inf true) h k = absurd k
le_trans (fin s m e) (fin t n d) (inf false) h k = tt
le_trans (fin s m e) (fin t n d) (fin u l f) h k = fractions s t u (m * up e) (n * up d) (l * up f) (down e) (down d) (down f) (down_pos d) h k

-- ---- a NaN compares false
pub lt_nan : (x : Float) → (lt nan x ≡ false) × (lt x nan ≡ false)
unfolding lt
lt_nan nan = (refl, refl)
lt_nan (inf s) = (refl, refl)
lt_nan (fin s m e) = (refl, refl)

pub le_nan : (x : Float) → (le nan x ≡ false) × (le x nan ≡ false)
unfolding le
le_nan nan = (refl, refl)
le_nan (inf s) = (refl, refl)
le_nan (fin s m e) = (refl, refl)

-- ---- of two numbers, one is below the other exactly where the other is not at most it
pub lt_opposite : (x y : Float) → is_nan x ≡ false → is_nan y ≡ false → lt x y ≡ not (le y x)
unfolding lt le is_nan
lt_opposite nan y a b = absurd (true≢false a)
lt_opposite (inf s) nan a b = absurd (true≢false b)
lt_opposite (inf true) (inf true) a b = refl
lt_opposite (inf true) (inf false) a b = refl
lt_opposite (inf false) (inf true) a b = refl
lt_opposite (inf false) (inf false) a b = refl
lt_opposite (inf true) (fin t n d) a b = refl
lt_opposite (inf false) (fin t n d) a b = refl
lt_opposite (fin s m e) nan a b = absurd (true≢false b)
lt_opposite (fin s m e) (inf true) a b = refl
lt_opposite (fin s m e) (inf false) a b = refl
lt_opposite (fin s m e) (fin t n d) a b = below_opposite s t (m * up e * down d) (n * up d * down e)

-- what is compared true is a number
pub le_numbers : (x y : Float) → T (le x y) → (is_nan x ≡ false) × (is_nan y ≡ false)
unfolding le is_nan
le_numbers nan y h = absurd h
le_numbers (inf s) nan h = absurd h
le_numbers (inf s) (inf t) h = (refl, refl)
le_numbers (inf s) (fin t n d) h = (refl, refl)
le_numbers (fin s m e) nan h = absurd h
le_numbers (fin s m e) (inf t) h = (refl, refl)
le_numbers (fin s m e) (fin t n d) h = (refl, refl)

pub lt→le : (x y : Float) → T (lt x y) → T (le x y)
unfolding le
lt→le x y h = or_l (lt x y) (eq x y) h

pub le→not-lt : (x y : Float) → T (le y x) → lt x y ≡ false
le→not-lt x y h = rw (lt_opposite x y (le_numbers y x h).1 (le_numbers y x h).0, is_true (le y x) h) refl

pub not-lt→le : (x y : Float) → is_nan x ≡ false → is_nan y ≡ false → lt x y ≡ false → T (le y x)
not-lt→le x y a b e = go (le y x) (rw (lt_opposite x y a b) at e)
  where
    go : (b : Bool) → not b ≡ false → T b
    go true e = tt
    go false e = absurd (true≢false e)

-- ---- `lt` with `le`, and with itself
below_le : (x z : Float) → is_nan x ≡ false → is_nan z ≡ false → (T (le z x) → ⊥) → T (lt x z)
below_le x z a b f = rw (lt_opposite x z a b) (not_T (le z x) f)

pub lt_excludes : (x y : Float) → T (lt x y) → T (le y x) → ⊥
lt_excludes x y h k = rw (le→not-lt x y k) at h

pub lt_le : (x y z : Float) → T (lt x y) → T (le y z) → T (lt x z)
lt_le x y z h k = below_le x z (le_numbers x y (lt→le x y h)).0 (le_numbers y z k).1 (λ c. lt_excludes x y h (le_trans y z x k c))

pub le_lt : (x y z : Float) → T (le x y) → T (lt y z) → T (lt x z)
le_lt x y z h k = below_le x z (le_numbers x y h).0 (le_numbers y z (lt→le y z k)).1 (λ c. lt_excludes y z k (le_trans z x y c h))

pub lt_trans : (x y z : Float) → T (lt x y) → T (lt y z) → T (lt x z)
lt_trans x y z h k = lt_le x y z h (lt→le y z k)

-- ---- `eq` is at most both ways
pub le_antisym : (x y : Float) → T (le x y) → T (le y x) → T (eq x y)
unfolding le
le_antisym x y h k = either (T (eq x y)) (lt x y) (eq x y) h (λ l. absurd (lt_excludes x y l k)) (λ l. l)

level_sym : (s t : Bool) (a b : ℕ) → T (level s a t b) → AtMost t b s a
level_sym false false a b h = omega (arith, eqb→eq a b (and_l (eqb a b) true h))
level_sym false true a b h = tt
level_sym true false a b h = omega (arith, eqb→eq a b (and_l (eqb a b) (eqb a 0) h), eqb→eq a 0 (and_r (eqb a b) (eqb a 0) h))
level_sym true true a b h = omega (arith, eqb→eq a b (and_l (eqb a b) true h))

pub eq→le : (x y : Float) → T (eq x y) → T (le x y) × T (le y x)
unfolding le
eq→le nan y h = absurd h
eq→le (inf s) nan h = absurd h
eq→le (inf true) (inf true) h = (tt, tt)
eq→le (inf true) (inf false) h = absurd h
eq→le (inf false) (inf true) h = absurd h
eq→le (inf false) (inf false) h = (tt, tt)
eq→le (inf s) (fin t n d) h = absurd h
eq→le (fin s m e) nan h = absurd h
eq→le (fin s m e) (inf t) h = absurd h
eq→le (fin s m e) (fin t n d) h = (
  or_r (below s (m * up e * down d) t (n * up d * down e)) (level s (m * up e * down d) t (n * up d * down e)) h,
  of_most t s (n * up d * down e) (m * up e * down d) (level_sym s t (m * up e * down d) (n * up d * down e) h),
)

pub eq_sym : (x y : Float) → T (eq x y) → T (eq y x)
eq_sym x y h = le_antisym y x (eq→le x y h).1 (eq→le x y h).0

pub eq_trans : (x y z : Float) → T (eq x y) → T (eq y z) → T (eq x z)
eq_trans x y z h k = le_antisym x z (le_trans x y z (eq→le x y h).0 (eq→le y z k).0) (le_trans z y x (eq→le y z k).1 (eq→le x y h).1)

-- equal floats are equal to the same floats
pub eq_cong : (x y z : Float) → T (eq x y) → eq x z ≡ eq y z
eq_cong x y z h = same (eq x z) (eq y z) (λ k. eq_trans y x z (eq_sym x y h) k) (λ k. eq_trans x y z h k)

-- ---- a number equals itself, and a NaN does not
pub self_equal : (x : Float) → eq x x ≡ not (is_nan x)
unfolding eq is_nan
self_equal nan = refl
self_equal (inf true) = refl
self_equal (inf false) = refl
self_equal (fin true m e) = rw (is_true (eqb (m * up e * down e) (m * up e * down e)) (eqb_refl (m * up e * down e))) refl
self_equal (fin false m e) = rw (is_true (eqb (m * up e * down e) (m * up e * down e)) (eqb_refl (m * up e * down e))) refl

-- the test `x != x`
pub differs : (x : Float) → ne x x ≡ is_nan x
unfolding ne
differs x = rw (self_equal x) (table1 (λ b. not (not b)) (λ b. b) tt (is_nan x))

pub le_refl : (x : Float) → is_nan x ≡ false → T (le x x)
unfolding le
le_refl x e = or_r (lt x x) (eq x x) (rw (self_equal x, e) tt)
