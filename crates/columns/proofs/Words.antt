-- One column: the column of a word is read as that word, and a column that is read as a word is its column. Assumes nothing.
use Prim.Native.Nat.{ℕ, suc, ◌-◌, ◌%◌, ◌≤◌, ◌<◌}
use mathlib.Core.Path.{◌≡◌, refl, sym, ap, ◌∙◌}
use mathlib.Core.List.{List}
use mathlib.Core.Bool.{Bool, true, false, cond, not, ◌&&◌, true≢false}
use native.Mathlib.Omega.{arith}
use lib.Dec.{T, eqb, ltb, leb}
use lib.ListN.{length}
use lib.IntN.{ℤ, pos, negsuc}
use mir.ValLaws.{to_z_pos, to_z-neg}
use mir.Syntax.{w64}
use lib.Ieee.{Float, nan, inf, fin, binary64, to_bits, of_bits, of_fields, odd, nan_bits, is_nan}
use lib.Ieee.Bits.{nan_bits_is, nan_bits_above}
use borrow.Author.Tests.{eqb-true, ltb-true, ltb-false, leb-true, leb-false, lt-ltb, le-ltb, le-leb, lt-leb}
use Rattle.columns.specs.Column.{column}
use Rattle.std.specs.Prelude.{Some, None}
use Rattle.std.specs.Option.{is_some, unwrap_or}
use Rattle.columns.specs.Scan.{same, decimal, has_minus, limit, number, scan}
use Rattle.std.specs.Int.{cast_signed, cast_unsigned}
use Rattle.columns.specs.Word.{half, last_word, word_signed, signed_word}
use Rattle.columns.specs.declared.forms.Form.{Form}
use Rattle.columns.specs.declared.forms.Form.TheVariants as variant
use Rattle.columns.specs.Forms.{form_of, is_yes_no, is_signed, is_word, is_negative, magnitude, word_column, word_in, read_word, largest}
use Rattle.columns.proofs.Scanning.{by_test}
use Rattle.columns.proofs.Inverse.{both, same_refl, same_eq, column_decimal, column_minus, length_column, scan_column, scan_was}

-- ---- the form that a byte names

-- what is asked of a byte's form is what is asked of the byte
pub byte_form : (byte : ℕ) → (is_yes_no (form_of byte) ≡ eqb byte 98) × (is_signed (form_of byte) ≡ eqb byte 105)
byte_form byte = by (eqb byte 102) (eqb byte 98) (eqb byte 105) refl refl refl
  where
    by : (f b i : Bool) → eqb byte 102 ≡ f → eqb byte 98 ≡ b → eqb byte 105 ≡ i
        → (is_yes_no (cond f variant.Float (cond b variant.YesNo (cond i variant.Signed variant.Unsigned))) ≡ b)
        × (is_signed (cond f variant.Float (cond b variant.YesNo (cond i variant.Signed variant.Unsigned))) ≡ i)
    by true true i x y z = absurd (omega (arith, eqb-true byte 102 x, eqb-true byte 98 y))
    by true false true x y z = absurd (omega (arith, eqb-true byte 102 x, eqb-true byte 105 z))
    by true false false x y z = (refl, refl)
    by false true true x y z = absurd (omega (arith, eqb-true byte 98 y, eqb-true byte 105 z))
    by false true false x y z = (refl, refl)
    by false false i x y z = other i
      where
        other : (i : Bool) → (is_yes_no (cond i variant.Signed variant.Unsigned) ≡ false) × (is_signed (cond i variant.Signed variant.Unsigned) ≡ i)
        other true = (refl, refl)
        other false = (refl, refl)

-- ---- a word and its column

pub word_small : (form : Form) (w : ℕ) → is_word form w ≡ true → w < limit
unfolding is_word
word_small form w =
    by_test (λ (k : ℕ). ltb w k ≡ true → w < limit) (is_yes_no form) 2 limit (λ _ e. omega (arith, ltb-true w 2 e)) (λ _ e. ltb-true w limit e)

magnitude_small : (form : Form) (w : ℕ) → w < limit → magnitude form w < limit
magnitude_small form w h =
    by_test (λ (k : ℕ). k < limit) (is_negative form w) (limit - w) w
    (λ e. omega (arith, leb-true half w (both (is_signed form) (leb half w) e).1))
    (λ _. h)

in_column : (form : Form) (w : ℕ) → w < limit → word_in form (word_column form w) ≡ w
unfolding word_column
in_column form w h =
    rw (column_minus (is_negative form w) (magnitude form w) (magnitude_small form w h), column_decimal (is_negative form w) (magnitude form w) (magnitude_small form w h))
    (go (is_signed form) (leb half w))
  where
    go : (s l : Bool) → cond (s && (s && l)) (limit - cond (s && l) (limit - w) w) (cond (s && l) (limit - w) w) ≡ w
    go true true = omega arith
    go true false = refl
    go false l = refl

-- the column of a word is read as it
pub read_word_back : (form : Form) (w : ℕ) → is_word form w ≡ true → read_word form (word_column form w) ≡ Some w
unfolding read_word
read_word_back form w h = rw (in_column form w (word_small form w h)) (simp (same_refl (word_column form w), h))

-- and a column that is read is that of its word
pub read_word_was : (form : Form) (c : List ℕ) → is_some (read_word form c) ≡ true → (c ≡ word_column form (unwrap_or (read_word form c) 0)) × (is_word form (unwrap_or (read_word form c) 0) ≡ true)
unfolding read_word
read_word_was form c =
    by_test (λ r. is_some r ≡ true → (c ≡ word_column form (unwrap_or r 0)) × (is_word form (unwrap_or r 0) ≡ true)) (same c (word_column form w) && is_word form w) (Some w) None
    (λ t _.
    let b = both (same c (word_column form w)) (is_word form w) t in
    (same_eq c _ b.0, b.1))
    (λ _ g. absurd (true≢false (sym g)))
  where
    w : ℕ
    w = word_in form c

pub length_word : (form : Form) (w : ℕ) → length (word_column form w) ≡ 21
unfolding word_column
length_word form w = length_column (is_negative form w) (magnitude form w)

-- ---- by the number that stands in a column

no_word_for : (form : Form) (c : List ℕ) → ((w : ℕ) → is_word form w ≡ true → c ≡ word_column form w → ⊥) → None ≡ read_word form c
unfolding read_word
no_word_for form c h =
    by_test (λ r. None ≡ r) (same c (word_column form w) && is_word form w) (Some w) None
    (λ t.
    let b = both (same c (word_column form w)) (is_word form w) t in
    absurd (h w b.1 (same_eq c _ b.0)))
    (λ _. refl)
  where
    w : ℕ
    w = word_in form c

module _ (form : Form) (n : ℕ) (small : n < limit) where
  -- the sign and the number in the column of a word
  column_is : (minus : Bool) (w : ℕ) → is_word form w ≡ true → column minus n ≡ word_column form w → (minus ≡ is_negative form w) × (n ≡ magnitude form w)
  unfolding word_column
  column_is minus w h e =
      let m : magnitude form w < limit = magnitude_small form w (word_small form w h) in (
        sym (column_minus minus n small) ∙ ap has_minus e ∙ column_minus (is_negative form w) (magnitude form w) m,
        sym (column_decimal minus n small) ∙ ap decimal e ∙ column_decimal (is_negative form w) (magnitude form w) m,
      )

  -- after a minus: a signed number, from 1 to 2^63
  pub no_minus_word : (is_signed form ≡ true → 0 < n → n ≤ half → ⊥) → None ≡ read_word form (column true n)
  no_minus_word h =
      no_word_for form (column true n) (λ w is e.
      let c = column_is true w is e in
      let b = both (is_signed form) (leb half w) (sym c.0) in
      let m : n ≡ limit - w = c.1 ∙ ap (λ (t : Bool). cond t (limit - w) w) (sym c.0) in
      h b.0 (omega (arith, word_small form w is)) (omega (arith, leb-true half w b.1)))

  -- with no minus: a number up to the largest of the form
  pub no_plain_word : largest form < n → None ≡ read_word form (column false n)
  unfolding is_word largest
  no_plain_word h =
      no_word_for form (column false n) (λ w is e.
      let c = column_is false w is e in
      let m : n ≡ w = c.1 ∙ ap (λ (t : Bool). cond t (limit - w) w) (sym c.0) in
      by (is_yes_no form) (is_signed form) w m is c.0 h)
    where
      by : (y s : Bool) (w : ℕ) → n ≡ w → ltb w (cond y 2 limit) ≡ true → false ≡ s && leb half w → cond y 1 (cond s 9223372036854775807 last_word) < n → ⊥
      by true s w m t _ l = omega (arith, ltb-true w 2 t)
      by false true w m t f l = omega (arith, leb-false half w (sym f))
      by false false w m t f l = omega (arith, ltb-true w limit t)

  pub plain_word : n ≤ largest form → Some n ≡ read_word form (column false n)
  unfolding is_word largest word_column
  plain_word h = sym (ap (λ (c : List ℕ). read_word form c) (rw plain) ∙ read_word_back form n (word_there (is_yes_no form) (is_signed form) h))
    where
      word_there : (y s : Bool) → n ≤ cond y 1 (cond s 9223372036854775807 last_word) → ltb n (cond y 2 limit) ≡ true
      word_there true s l = lt-ltb n 2 (omega arith)
      word_there false s l = lt-ltb n limit small

      low : (y s : Bool) → n ≤ cond y 1 (cond s 9223372036854775807 last_word) → s && leb half n ≡ false
      low y false l = refl
      low true true l = lt-leb half n (omega arith)
      low false true l = lt-leb half n (omega arith)

      plain : is_negative form n ≡ false
      plain = low (is_yes_no form) (is_signed form) h

-- by what is scanned
pub scanned_word : (form : Form) (c : List ℕ) (minus b : Bool) (n : ℕ) → scan c ≡ Some (number minus n) → minus ≡ b → read_word form (column b n) ≡ read_word form c
scanned_word form c minus b n e m = ap (λ (x : List ℕ). read_word form x) (sym (scan_was c b n (e ∙ ap (λ (x : Bool). Some (number x n)) m)).0)

pub no_scanned_word : (form : Form) (c : List ℕ) → scan c ≡ None → None ≡ read_word form c
unfolding word_column
no_scanned_word form c e =
    no_word_for form c (λ w is d.
    let m : magnitude form w < limit = magnitude_small form w (word_small form w is) in
    let f : scan c ≡ Some (number (is_negative form w) (magnitude form w)) = ap scan d ∙ scan_column (is_negative form w) (magnitude form w) m in
    let z : ◌≡◌ {A = ℕ} 0 1 = cc in
    omega arith)

-- no signed number is a yes or no
no_yes : (form : Form) → is_signed form ≡ true → is_yes_no form ≡ false
no_yes variant.Float e = refl
no_yes variant.YesNo e = sym e
no_yes variant.Signed e = refl
no_yes variant.Unsigned e = refl

-- the word of a number after a minus
pub minus_word : (form : Form) (n w : ℕ) → is_signed form ≡ true → 0 < n → n ≤ half → w ≡ limit - n → Some w ≡ read_word form (column true n)
unfolding is_word word_column
minus_word form n w e low high m =
    let l : half ≤ w = omega arith in
    let d : n ≡ limit - w = omega arith in
    let there : is_word form w ≡ true = ap (λ (b : Bool). ltb w (cond b 2 limit)) (no_yes form e) ∙ lt-ltb w limit (omega arith) in
    let is : column true n ≡ word_column form w = rw (e, le-leb half w l) (ap (λ (k : ℕ). column true k) d) in
    sym (ap (λ (c : List ℕ). read_word form c) is ∙ read_word_back form w there)

-- the column that is written of a word of a signed number below 0, and of any other
pub column_minus_word : (form : Form) (w : ℕ) → is_signed form ≡ true → half ≤ w → w < limit → column true (limit - w) ≡ word_column form w
unfolding word_column
column_minus_word form w e h l = simp (e, le-leb half w h)

pub column_plain_word : (form : Form) (w : ℕ) → (is_signed form ≡ true → w < half) → column false w ≡ word_column form w
unfolding word_column
column_plain_word form w h = rw (go (is_signed form) refl)
  where
    go : (s : Bool) → is_signed form ≡ s → s && leb half w ≡ false
    go true e = lt-leb half w (h e)
    go false e = refl

-- ---- two's complement

pub word_signed_is : (w : ℕ) → w < limit → cast_signed w64 w ≡ word_signed w
unfolding word_signed
word_signed_is w h = by (ltb w half) refl
  where
    by : (t : Bool) → ltb w half ≡ t → cast_signed w64 w ≡ cond t (pos w) (negsuc (last_word - w))
    by true e = to_z_pos w64 w (ltb-true w half e)
    by false e =
        let n : limit - suc (last_word - w) ≡ w = omega (arith, ltb-false w half e) in
        ap (λ (k : ℕ). cast_signed w64 k) (sym n) ∙ to_z-neg w64 (last_word - w) (omega (arith, ltb-false w half e))

pub signed_word_is : (z : ℤ) → cast_unsigned w64 z ≡ signed_word z
signed_word_is (pos n) = refl
signed_word_is (negsuc k) = let e : limit - suc k ≡ last_word - k = omega arith in e

-- ---- a float

-- there is one NaN
pub nan_is : (x : Float) → is_nan x ≡ true → nan ≡ x
unfolding is_nan
nan_is nan e = refl
nan_is (inf s) e = cc
nan_is (fin s m k) e = cc

-- the patterns above that of infinity, sign aside, are those of the NaNs
pub nan_read : (n : ℕ) → 9218868437227405312 < n % 9223372036854775808 → of_bits binary64 9221120237041090560 ≡ of_bits binary64 n
unfolding of_bits of_fields odd
nan_read n h = nan_is (of_bits binary64 n) (sym (nan_bits_is binary64 n) ∙ nan_bits_above binary64 n ∙ lt-ltb _ _ h)

pub not_nan : (n : ℕ) → n % 9223372036854775808 ≤ 9218868437227405312 → T (not (nan_bits binary64 n))
not_nan n h = rw (nan_bits_above binary64 n, le-ltb _ _ h) tt

-- any NaN prints 9221120237041090560
pub nan_pattern : (x : Float) → is_nan x ≡ true → 9221120237041090560 ≡ to_bits binary64 x
unfolding to_bits
nan_pattern x e = ap (λ (y : Float). to_bits binary64 y) (nan_is x e)

pub nan_prints : word_column variant.Float (to_bits binary64 nan) ≡ word_column variant.Float 9221120237041090560
unfolding to_bits
nan_prints = refl
