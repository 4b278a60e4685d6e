-- Words and the values that they stand for: the word of the value of a word is that word, but for a NaN; and the value of the word of a value is that value. For
-- one word of each form, and for words of any forms. Assumes nothing.
use Prim.Native.Nat.{ℕ, ◌-◌, ◌≤◌, ◌<◌}
use mathlib.Core.Path.{◌≡◌, refl, sym, ap, ap₂, ◌∙◌}
use mathlib.Core.List.{List, [], ◌∷◌}
use mathlib.Core.Bool.{Bool, true, false, cond, not, ◌&&◌, true≢false}
use native.Mathlib.Omega.{arith}
use lib.Dec.{T, ltb, eqb}
use lib.IntN.{ℤ, pos, negsuc}
use lib.Signed.{mag}
use lib.Ieee.{Float, nan, inf, fin, binary64, of_bits, to_bits, fits, is_nan}
use lib.Ieee.Scale.{finite}
use lib.Ieee.Bits.{of_bits-to_bits, to_bits-of_bits, to_bits-lt}
use borrow.Author.Tests.{ltb-true, ltb-false, eqb-true, eqb-false, lt-ltb, le-ltb}
use Rattle.columns.specs.Scan.{limit}
use Rattle.columns.specs.Word.{half, last_word, yes_no_word, word_signed, signed_word}
use Rattle.columns.specs.declared.forms.Form.{Form}
use Rattle.columns.specs.declared.forms.Form.TheVariants as variant
use Rattle.columns.specs.Forms.{is_float, is_yes_no, is_signed, is_word, are_words}
use Rattle.columns.proofs.Scanning.{by_test}
use Rattle.columns.proofs.Inverse.{both}
use Rattle.columns.proofs.Words.{word_small}

-- ---- the word of a value is a word of its form, and stands for that value

pub float_given : (x : Float) → fits binary64 x ≡ true → (is_word variant.Float (to_bits binary64 x) ≡ true) × (of_bits binary64 (to_bits binary64 x) ≡ x)
unfolding is_word
float_given x h = (lt-ltb _ _ (to_bits-lt binary64 x (rw h tt)), of_bits-to_bits binary64 x (rw h tt))

pub yes_no_given : (b : Bool) → (is_word variant.YesNo (yes_no_word b) ≡ true) × (eqb (yes_no_word b) 1 ≡ b)
unfolding is_word
yes_no_given true = (refl, refl)
yes_no_given false = (refl, refl)

pub signed_given : (z : ℤ) → mag z < half → (is_word variant.Signed (signed_word z) ≡ true) × (word_signed (signed_word z) ≡ z)
unfolding is_word word_signed
signed_given (pos n) h = (lt-ltb n limit (omega arith), simp (lt-ltb _ _ h))
signed_given (negsuc k) h =
    let l : half ≤ last_word - k = omega arith in
    let e : last_word - (last_word - k) ≡ k = omega arith in
    (lt-ltb (last_word - k) limit (omega arith), simp (le-ltb _ _ l, e))

-- ---- the word of the value that a word stands for

abbrev pub again : Form → ℕ → ℕ
again form word =
    cond (is_float form) (to_bits binary64 (of_bits binary64 word))
    (cond (is_yes_no form) (yes_no_word (eqb word 1))
    (cond (is_signed form) (signed_word (word_signed word)) word))

abbrev pub all_again : List Form → List ℕ → List ℕ
all_again [] words = []
all_again (form ∷ forms) [] = []
all_again (form ∷ forms) (word ∷ words) = again form word ∷ all_again forms words

-- each float among some words is finite, and `before` holds
abbrev pub finite_after : Bool → List Form → List ℕ → Bool
finite_after before [] words = before
finite_after before (form ∷ forms) [] = before
finite_after before (form ∷ forms) (word ∷ words) =
    finite_after (cond (is_float form) (before && finite (of_bits binary64 word)) before) forms words

abbrev pub floats_finite : List Form → List ℕ → Bool
floats_finite forms words = finite_after true forms words

finite_number : (x : Float) → finite x ≡ true → T (not (is_nan x))
unfolding is_nan
finite_number nan e = absurd (true≢false (sym e))
finite_number (inf s) e = tt
finite_number (fin s m k) e = tt

bit_again : (w : ℕ) → w < 2 → yes_no_word (eqb w 1) ≡ w
bit_again w h = by_test (λ (k : ℕ). k ≡ w) (eqb w 1) 1 0 (λ e. sym (eqb-true w 1 e)) (λ e. omega (arith, eqb-false w 1 e))

signed_again : (w : ℕ) → w < limit → signed_word (word_signed w) ≡ w
unfolding word_signed
signed_again w h = by_test (λ z. signed_word z ≡ w) (ltb w half) _ _ (λ _. refl) (λ e. omega (arith, ltb-false w half e))

-- is that word, but for a NaN
word_again : (form : Form) (w : ℕ) → is_word form w ≡ true → (is_float form ≡ true → finite (of_bits binary64 w) ≡ true) → again form w ≡ w
unfolding is_word
word_again form w h f = go (is_float form) refl (is_yes_no form) refl (is_signed form)
  where
    go : (r : Bool) → is_float form ≡ r → (y : Bool) → is_yes_no form ≡ y → (s : Bool)
        → cond r (to_bits binary64 (of_bits binary64 w)) (cond y (yes_no_word (eqb w 1)) (cond s (signed_word (word_signed w)) w)) ≡ w
    go true e y d s = to_bits-of_bits binary64 w (word_small form w h) (finite_number (of_bits binary64 w) (f e))
    go false e true d s = bit_again w (ltb-true w 2 (ap (λ (b : Bool). ltb w (cond b 2 limit)) (sym d) ∙ h))
    go false e false d true = signed_again w (word_small form w h)
    go false e false d false = refl

before_holds : (b : Bool) (forms : List Form) (words : List ℕ) → finite_after b forms words ≡ true → b ≡ true
before_holds b [] words h = h
before_holds b (form ∷ forms) [] h = h
before_holds b (form ∷ forms) (w ∷ words) h = by (is_float form) (before_holds (cond (is_float form) (b && finite (of_bits binary64 w)) b) forms words h)
  where
    by : (r : Bool) → cond r (b && finite (of_bits binary64 w)) b ≡ true → b ≡ true
    by true e = (both b (finite (of_bits binary64 w)) e).0
    by false e = e

all_again_lem : (b : Bool) (forms : List Form) (words : List ℕ) → are_words forms words ≡ true → finite_after b forms words ≡ true → all_again forms words ≡ words
unfolding are_words
all_again_lem b [] [] h n = refl
all_again_lem b [] (w ∷ words) h n = absurd (true≢false (sym h))
all_again_lem b (form ∷ forms) [] h n = absurd (true≢false (sym h))
all_again_lem b (form ∷ forms) (w ∷ words) h n =
    let a = both (is_word form w) (are_words forms words) h in
    let f : is_float form ≡ true → finite (of_bits binary64 w) ≡ true =
    λ e. (both b (finite (of_bits binary64 w)) (ap (λ (r : Bool). cond r (b && finite (of_bits binary64 w)) b) (sym e) ∙ before_holds (cond (is_float form) (b && finite (of_bits binary64 w)) b) forms words n)).1 in
    ap₂ (λ (x : ℕ) (l : List ℕ). x ∷ l) (word_again form w a.0 f) (all_again_lem (cond (is_float form) (b && finite (of_bits binary64 w)) b) forms words a.1 n)

-- for words of any forms
pub words_again : (forms : List Form) (words : List ℕ) → are_words forms words ≡ true → floats_finite forms words ≡ true → all_again forms words ≡ words
words_again forms words = all_again_lem true forms words
