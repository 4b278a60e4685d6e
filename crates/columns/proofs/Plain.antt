-- No newline stands in a column, so that the line of words ends where it ends. Assumes nothing.
use Prim.Native.Nat.{ℕ, zero, suc, ◌+◌, ◌/◌, ◌%◌}
use mathlib.Core.Path.{◌≡◌, refl, ap₂}
use mathlib.Core.List.{List, [], ◌∷◌, ◌++◌}
use mathlib.Core.Bool.{Bool, true, false, cond, not, ◌&&◌}
use native.Mathlib.Omega.{arith}
use lib.Dec.{ltb, eqb}
use lib.ListN.{replicate}
use borrow.Author.Tests.{ne_eqb}
use Rattle.columns.specs.Column.{space, pad, text, column}
use Rattle.columns.specs.Line.{newline}
use Rattle.columns.specs.declared.forms.Form.{Form}
use Rattle.columns.specs.Forms.{is_negative, magnitude, word_column, line_of}
use Rattle.columns.proofs.Inverse.{both}

-- no byte is a newline
abbrev pub plain : List ℕ → Bool
plain [] = true
plain (b ∷ l) = not (eqb b newline) && plain l

plain_append : (a b : List ℕ) → plain a ≡ true → plain b ≡ true → plain (a ++ b) ≡ true
plain_append [] b h k = k
plain_append (x ∷ a) b h k =
    let s = both (not (eqb x newline)) (plain a) h in
    ap₂ (λ (p q : Bool). p && q) s.0 (plain_append a b s.1 k)

spaces : (n : ℕ) → plain (replicate n space) ≡ true
spaces zero = refl
spaces (suc n) = spaces n

digit : (n : ℕ) → plain ((48 + n % 10) ∷ []) ≡ true
digit n = rw (ne_eqb (48 + n % 10) newline (λ e. omega arith))

module _ (m : ℕ) (h : plain (m ∷ []) ≡ true) where
  plain_pad : (w : ℕ) → plain (pad m w) ≡ true
  plain_pad zero = refl
  plain_pad (suc w) = plain_append (replicate w space) (m ∷ []) (spaces w) h

  plain_text : (w n : ℕ) → plain (text m w n) ≡ true
  plain_text zero n = refl
  plain_text (suc w) n = plain_append (cond (ltb n 10) (pad m w) (text m w (n / 10))) ((48 + n % 10) ∷ []) (by (ltb n 10) (plain_text w (n / 10))) (digit n)
    where
      by : (t : Bool) → plain (text m w (n / 10)) ≡ true → plain (cond t (pad m w) (text m w (n / 10))) ≡ true
      by true e = plain_pad w
      by false e = e

plain_column : (negative : Bool) (n : ℕ) → plain (column negative n) ≡ true
unfolding column
plain_column true n = plain_text 45 refl 21 n
plain_column false n = plain_text 32 refl 21 n

-- in the line of any words
pub plain_line : (forms : List Form) (words : List ℕ) → plain (line_of forms words) ≡ true
unfolding line_of word_column
plain_line [] words = refl
plain_line (form ∷ forms) [] = refl
plain_line (form ∷ forms) (w ∷ words) = plain_append (column (is_negative form w) (magnitude form w)) (line_of forms words) (plain_column (is_negative form w) (magnitude form w)) (plain_line forms words)
