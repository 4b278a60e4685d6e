-- Tests, lists of four flags, and tables over two supply flags and four proofs. Assumes nothing.
use Prim.Native.Nat.{ℕ, zero, suc, ◌<◌}
use native.Mathlib.Omega.{arith}
use mathlib.Core.Path.{◌≡◌, refl, sym, ◌∙◌}
use mathlib.Core.Bool.{Bool, true, false, not, ◌&&◌, ◌||◌, beq, true≢false}
use mathlib.Core.List.{List, [], ◌∷◌}
use lib.Dec.{T}
use lib.Ieee.Fits.{and_l, and_r}
use Rattle.reals.specs.Four.{flag, each4}
use Rattle.reals.proofs.Truth.{is_true}
use Rattle.past.specs.Past.{every}
use Rattle.relief_answers.specs.NextFan.{some_fan}

-- ---- tests
-- a test is not both true and false
abbrev pub no : {P : Type 0} {b : Bool} → b ≡ true → b ≡ false → P
no p q = absurd (true≢false (sym p ∙ q))

pub both_are : (a b : Bool) → (a && b) ≡ true → (a ≡ true) × (b ≡ true)
both_are true b e = (refl, e)
both_are false b e = absurd (true≢false (sym e))

pub not_not : (a : Bool) → not (not a) ≡ a
not_not true = refl
not_not false = refl

pub beq→eq : (a b : Bool) → beq a b ≡ true → a ≡ b
beq→eq true true e = refl
beq→eq true false e = sym e
beq→eq false true e = e
beq→eq false false e = refl

pub beq_self : (a : Bool) → beq a a ≡ true
beq_self true = refl
beq_self false = refl

pub every_at : (n : ℕ) (f : ℕ → Bool) → every n f ≡ true → (i : ℕ) → i < n → f i ≡ true
unfolding every
every_at zero f e i l = absurd (omega arith)
every_at (suc n) f e zero l = (both_are (f 0) (every n (λ k. f (suc k))) e).0
every_at (suc n) f e (suc i) l = every_at n (λ k. f (suc k)) (both_are (f 0) (every n (λ k. f (suc k))) e).1 i (omega arith)

-- ---- four flags
-- where one of the four is on, some fan is
pub some_fan_lem : (l : List Bool) (i : ℕ) → i < 4 → flag l i ≡ true → some_fan l ≡ true
some_fan_lem l zero b e = rw e refl
some_fan_lem l (suc zero) b e = rw e (go (flag l 0))
  where
    go : (a : Bool) → (a || true || flag l 2 || flag l 3) ≡ true
    go true = refl
    go false = refl
some_fan_lem l (suc (suc zero)) b e = rw e (go (flag l 0 || flag l 1))
  where
    go : (a : Bool) → (a || true || flag l 3) ≡ true
    go true = refl
    go false = refl
some_fan_lem l (suc (suc (suc zero))) b e = rw e (go (flag l 0 || flag l 1 || flag l 2))
  where
    go : (a : Bool) → (a || true) ≡ true
    go true = refl
    go false = refl
some_fan_lem l (suc (suc (suc (suc i)))) b e = absurd (omega arith)

pub no_fan : (l : List Bool) (i : ℕ) → i < 4 → some_fan l ≡ false → flag l i ≡ false
no_fan l i b e = go (flag l i) (some_fan_lem l i b)
  where
    go : (a : Bool) → (a ≡ true → some_fan l ≡ true) → a ≡ false
    go true f = no (f refl) e
    go false f = refl

-- ---- a test of all lists of n flags, and of all 64 of two supply flags and four proofs
abbrev both : (Bool → Bool) → Bool
both f = f true && f false

at : (f : Bool → Bool) → T (both f) → (a : Bool) → T (f a)
at f t true = and_l (f true) (f false) t
at f t false = and_r (f true) (f false) t

abbrev all_flags : ℕ → (List Bool → Bool) → Bool
all_flags zero f = f []
all_flags (suc n) f = both (λ a. all_flags n (λ l. f (a ∷ l)))

abbrev first_of : ℕ → (ℕ → Bool) → List Bool
first_of zero g = []
first_of (suc n) g = g 0 ∷ first_of n (λ k. g (suc k))

at_flags : (n : ℕ) (f : List Bool → Bool) → T (all_flags n f) → (g : ℕ → Bool) → T (f (first_of n g))
at_flags zero f t g = t
at_flags (suc n) f t g = at_flags n (λ l. f (g 0 ∷ l)) (at (λ a. all_flags n (λ l. f (a ∷ l))) t (g 0)) (λ k. g (suc k))

-- the flags that are read of a row's lists
abbrev pub two : List Bool → List Bool
two s = flag s 0 ∷ flag s 1 ∷ []

abbrev pub four : List Bool → List Bool
four p = each4 (flag p)

abbrev pub all64 : (List Bool → List Bool → Bool) → Bool
all64 f = all_flags 2 (λ s. all_flags 4 (f s))

pub at64 : (f : List Bool → List Bool → Bool) → T (all64 f) → (s p : List Bool) → f (two s) (four p) ≡ true
at64 f t s p = is_true (f (two s) (four p)) (at_flags 4 (f (two s)) (at_flags 2 (λ s. all_flags 4 (f s)) t (flag s)) (flag p))

-- four flags that agree, each
abbrev pub same4 : List Bool → List Bool → Bool
same4 a b = every 4 (λ i. beq (flag a i) (flag b i))

pub four_same : (a b : List Bool) → same4 a b ≡ true → four a ≡ four b
four_same a b e = rw (one 0 (omega arith), one 1 (omega arith), one 2 (omega arith), one 3 (omega arith)) refl
  where
    one : (i : ℕ) → i < 4 → flag a i ≡ flag b i
    one i l = beq→eq (flag a i) (flag b i) (every_at 4 (λ i. beq (flag a i) (flag b i)) e i l)
