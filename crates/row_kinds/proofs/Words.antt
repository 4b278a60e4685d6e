-- What `==` says of two lists of bytes, and that a long line is no word of a first line. Assumes nothing.
use Prim.Native.Nat.{ℕ, ◌<◌}
use mathlib.Core.Path.{◌≡◌, refl, sym, ap, ◌∙◌}
use mathlib.Core.List.{List}
use mathlib.Core.Bool.{Bool, true, false, cond}
use native.Mathlib.Omega.{arith}
use lib.ListN.{length}
use Rattle.columns.specs.Scan.{same}
use Rattle.columns.proofs.Inverse.{same_refl, same_eq}
use Rattle.row_kinds.specs.declared.kind.Phase.{Phase}
use Rattle.row_kinds.specs.declared.kind.Phase.TheVariants.{Stopped}
use Rattle.row_kinds.specs.Kind.{freeze, relief, econ, phase_after}

is : (l w : List ℕ) (t : Bool) → (t ≡ true → l ≡ w) × (l ≡ w → t ≡ true) → same l w ≡ t
is l w true h = ap (λ (x : List ℕ). same l x) (sym (h.0 refl)) ∙ same_refl l
is l w false h = by (same l w) refl
  where
    by : (s : Bool) → same l w ≡ s → s ≡ false
    by true e = sym (h.1 (same_eq l w e))
    by false e = refl

differ : (l w : List ℕ) → (length l ≡ length w → ⊥) → same l w ≡ false
differ l w h = by (same l w) refl
  where
    by : (s : Bool) → same l w ≡ s → s ≡ false
    by true e = absurd (h (ap length (same_eq l w e)))
    by false e = refl

-- a word that the line is, and one that it is not
pub word_is : (p q : Phase) {l w : List ℕ} {t : Bool} → (t ≡ true → l ≡ w) × (l ≡ w → t ≡ true) → t ≡ true → p ≡ cond (same l w) p q
word_is p q {l} {w} {t} h e = sym (ap (λ (b : Bool). cond b p q) (is l w t h ∙ e))

pub word_is_not : (p q : Phase) {r : Phase} {l w : List ℕ} {t : Bool} → (t ≡ true → l ≡ w) × (l ≡ w → t ≡ true) → t ≡ false → r ≡ q → r ≡ cond (same l w) p q
word_is_not p q {r} {l} {w} {t} h e f = f ∙ sym (ap (λ (b : Bool). cond b p q) (is l w t h ∙ e))

pub long_is_none : (l : List ℕ) → 6 < length l → phase_after l ≡ Stopped
unfolding phase_after
long_is_none l h = simp (differ l freeze (λ e. omega arith), differ l relief (λ e. omega arith), differ l econ (λ e. omega arith))
