-- Lists of four by index, and loops over the four fans: an array that is filled from the front, or worked over in place, one store a turn, and a value that
-- takes one step a turn. Assumes nothing.
use mathlib.Core.Path.{◌≡◌, refl, ◌∙◌}
use mathlib.Core.List.{List, [], ◌∷◌}
use Prim.Native.Nat.{ℕ, zero, suc, ◌+◌, ◌≤◌, ◌<◌}
use native.Mathlib.Numerals.{add-one}
use native.Mathlib.Omega.{arith}
use lib.ListN.{set, get_or, length}
use Rattle.std.specs.List.{fold}
use Rattle.reals.specs.Four.{each4, fold4}

module _ {A : Type 0} where
  -- a list that is built by index, read by index
  pub at_each : (f : ℕ → A) (d : A) (i : ℕ) → i < 4 → get_or (each4 f) i d ≡ f i
  at_each f d zero l = refl
  at_each f d (suc zero) l = refl
  at_each f d (suc (suc zero)) l = refl
  at_each f d (suc (suc (suc zero))) l = refl
  at_each f d (suc (suc (suc (suc i)))) l = absurd (omega arith)

  -- o with its first n elements set to f 0, f 1, ..
  abbrev pub filled : (ℕ → A) → List A → ℕ → List A
  filled f o zero = o
  filled f o (suc n) = set (filled f o n) n (f n)

  -- the invariant of a loop that fills
  pub record Fill (f : ℕ → A) (o : List A) (n : ℕ) (out : List A) : Type 0 where
    pub most : n ≤ 4
    pub so : out ≡ filled f o n

  pub start : (f : ℕ → A) (o : List A) → Fill f o 0 o
  start f o = record { most = omega arith; so = refl }

  pub more : {f : ℕ → A} {o : List A} {n : ℕ} {out : List A} {v : A} → Fill f o n out → n < 4 → v ≡ f n → Fill f o (n + 1) (set out n v)
  more {f} {o} {n} {out} {v} h l e = record { most = omega arith; so = rw (add-one n, h.so, e) }

  -- after four turns every element is f's, whatever the array of four held before
  pub over : {f : ℕ → A} {o : List A} {n : ℕ} {out : List A} → length o ≡ 4 → Fill f o n out → 4 ≤ n → out ≡ each4 f
  over {f} {o} {n} e h l = let four : n ≡ 4 = omega arith in (rw four at h.so) ∙ all o e
    where
      all : (o : List A) → length o ≡ 4 → filled f o 4 ≡ each4 f
      all (a ∷ b ∷ c ∷ d ∷ []) e = refl
      all [] e = absurd (omega arith)
      all (a ∷ []) e = absurd (omega arith)
      all (a ∷ b ∷ []) e = absurd (omega arith)
      all (a ∷ b ∷ c ∷ []) e = absurd (omega arith)
      all (a ∷ b ∷ c ∷ d ∷ x ∷ xs) e = absurd (omega arith)

  pub done : {f : ℕ → A} {z : A} {n : ℕ} {out : List A} → Fill f (z ∷ z ∷ z ∷ z ∷ []) n out → 4 ≤ n → out ≡ each4 f
  done = over refl

  -- setting an element leaves those after it
  after_set : (l : List A) (i m : ℕ) (a d : A) → i < m → get_or (set l i a) m d ≡ get_or l m d
  after_set [] i m a d h = refl
  after_set (x ∷ xs) i zero a d h = absurd (omega arith)
  after_set (x ∷ xs) zero (suc m) a d h = refl
  after_set (x ∷ xs) (suc i) (suc m) a d h = after_set xs i m a d (omega arith)

  filled_yet : (f : ℕ → A) (o : List A) (n m : ℕ) (d : A) → n ≤ m → get_or (filled f o n) m d ≡ get_or o m d
  filled_yet f o zero m d h = refl
  filled_yet f o (suc n) m d h = after_set (filled f o n) n m (f n) d (omega arith) ∙ filled_yet f o n m d (omega arith)

  -- in an array that is worked over in place, the element that a turn comes to is as it was
  pub yet : {f : ℕ → A} {o : List A} {n : ℕ} {out : List A} (d : A) → Fill f o n out → get_or out n d ≡ get_or o n d
  yet {f} {o} {n} d h = rw h.so (filled_yet f o n n d (omega arith))

  -- what z is after the steps f 0, f 1, .. of which there are n
  abbrev pub stepped : (A → ℕ → A) → A → ℕ → A
  stepped f z zero = z
  stepped f z (suc n) = f (stepped f z n) n

  -- the invariant of a loop that takes steps
  pub record Steps (f : A → ℕ → A) (z : A) (n : ℕ) (y : A) : Type 0 where
    pub most : n ≤ 4
    pub so : y ≡ stepped f z n

  pub begin : (f : A → ℕ → A) (z : A) → Steps f z 0 z
  begin f z = record { most = omega arith; so = refl }

  pub step : {f : A → ℕ → A} {z : A} {n : ℕ} {y v : A} → Steps f z n y → n < 4 → v ≡ f y n → Steps f z (n + 1) v
  step {f} {z} {n} {y} {v} h l e = record { most = omega arith; so = rw (e, add-one n, h.so) }

  pub ends : {f : A → ℕ → A} {z : A} {n : ℕ} {y : A} → Steps f z n y → 4 ≤ n → y ≡ fold4 f z
  ends {f} {z} {n} {y} h l = let e : n ≡ 4 = omega arith in rw e at h.so

-- a fold over an array of four is four steps by index
module _ {A B : Type 0} where
  pub folded : (h : B → A → B) (z : B) (values : List A) (d : A) → length values ≡ 4 → fold h z values ≡ fold4 (λ y i. h y (get_or values i d)) z
  folded h z (a ∷ b ∷ c ∷ e ∷ []) d l = refl
  folded h z [] d l = absurd (omega arith)
  folded h z (a ∷ []) d l = absurd (omega arith)
  folded h z (a ∷ b ∷ []) d l = absurd (omega arith)
  folded h z (a ∷ b ∷ c ∷ []) d l = absurd (omega arith)
  folded h z (a ∷ b ∷ c ∷ e ∷ x ∷ xs) d l = absurd (omega arith)

-- what a loop that fills an array, and one that takes steps, is proved by: its start, a turn, its end
pub ruleset fill_loop = (start, more, done)

pub ruleset step_loop = (begin, step, ends)
