-- Reading a column and writing one undo each other: some bytes are read as a value exactly when they are its column. Assumes nothing.
use Prim.Native.Nat.{ℕ, zero, suc, ◌+◌, ◌-◌, ◌*◌, ◌/◌, ◌%◌, ◌^◌, ◌≤◌, ◌<◌}
use mathlib.Core.Path.{◌≡◌, refl, sym, ap, ap₂, ◌∙◌, subst}
use mathlib.Core.List.{List, [], ◌∷◌, ◌++◌}
use mathlib.Core.Bool.{Bool, true, false, ◌&&◌, ◌||◌}
use native.Mathlib.Omega.{arith}
use native.Mathlib.Nat.{pow-suc}
use lib.ListN.{length, take, replicate}
use lib.Seq.{take_all}
use lib.Dec.{ltb, eqb}
use borrow.Author.Tests.{ltb-true, ltb-false, eqb-true, lt-ltb, le-leb, eq-eqb, ne_eqb}
use Rattle.columns.specs.declared.scan.Number as declared
use Rattle.columns.specs.Column.{mark, pad, text, column}
use Rattle.std.specs.Prelude.{Option, Some, None}
use Rattle.columns.specs.Scan.{same, digit, decimal_after, decimal, has_minus, limit, number, scan}
use Rattle.columns.proofs.Scanning.{Seen, Blank, Minus, Number, Bad, scan_to, Means, means, scan_text, length_text, by_test}

-- ---- lists of bytes that are the same
pub same_refl : (l : List ℕ) → same l l ≡ true
same_refl [] = refl
same_refl (x ∷ l) = simp (eq-eqb x x refl, same_refl l)

pub both : (a b : Bool) → a && b ≡ true → (a ≡ true) × (b ≡ true)
both true b e = (refl, e)
both false true e = (e, refl)
both false false e = (e, e)

pub same_eq : (l m : List ℕ) → same l m ≡ true → l ≡ m
same_eq [] [] e = refl
same_eq [] (y ∷ m) e = cc
same_eq (x ∷ l) [] e = cc
same_eq (x ∷ l) (y ∷ m) e =
    let b = both (eqb x y) (same l m) e in
    ap₂ (λ (h : ℕ) (t : List ℕ). h ∷ t) (eqb-true x y b.0) (same_eq l m b.1)

-- ---- the digits of a text are its number
digit_text : (d : ℕ) → d ≤ 9 → digit (48 + d) ≡ d
unfolding digit
digit_text d h =
    let a : 48 ≤ 48 + d = omega arith in
    let b : 48 + d ≤ 57 = omega arith in
    let e : 48 + d - 48 ≡ d = omega arith in
    simp (le-leb _ _ a, le-leb _ _ b) e

decimal_snoc : (v : ℕ) (l : List ℕ) (b : ℕ) → decimal_after v (l ++ (b ∷ [])) ≡ decimal_after v l * 10 + digit b
decimal_snoc v [] b = refl
decimal_snoc v (x ∷ l) b = decimal_snoc (v * 10 + digit x) l b

decimal_spaces : (w : ℕ) → decimal_after 0 (replicate w 32) ≡ 0
unfolding digit
decimal_spaces zero = refl
decimal_spaces (suc w) = decimal_spaces w

decimal_pad : (neg : Bool) (w : ℕ) → decimal_after 0 (pad (mark neg) w) ≡ 0
unfolding digit
decimal_pad neg zero = refl
decimal_pad true (suc w) = decimal_snoc 0 (replicate w 32) 45 ∙ ap (λ (k : ℕ). k * 10 + 0) (decimal_spaces w)
decimal_pad false (suc w) = decimal_snoc 0 (replicate w 32) 32 ∙ ap (λ (k : ℕ). k * 10 + 0) (decimal_spaces w)

decimal_text : (neg : Bool) (w n : ℕ) → n < 10 ^ w → decimal_after 0 (text (mark neg) w n) ≡ n
decimal_text neg zero n h = omega arith
decimal_text neg (suc w) n h =
    let x : ℕ = 48 + n % 10 in
    let p : 10 ^ suc w ≡ 10 ^ w * 10 = pow-suc 10 w in
    let d : digit x ≡ n % 10 = digit_text (n % 10) (omega arith) in
    by_test (λ (f : List ℕ). decimal_after 0 (f ++ (x ∷ [])) ≡ n) (ltb n 10) (pad (mark neg) w) (text (mark neg) w (n / 10))
    (λ e.
    let l : n < 10 = ltb-true _ _ e in
    let q : 0 * 10 + n % 10 ≡ n = omega arith in
    decimal_snoc 0 (pad (mark neg) w) x ∙ ap₂ (λ (k j : ℕ). k * 10 + j) (decimal_pad neg w) d ∙ q)
    (λ e.
    let q : n / 10 * 10 + n % 10 ≡ n = omega arith in
    decimal_snoc 0 (text (mark neg) w (n / 10)) x ∙ ap₂ (λ (k j : ℕ). k * 10 + j) (decimal_text neg w (n / 10) (omega arith)) d ∙ q)

-- ---- a text has a minus where its number has one
or_false : (t : Bool) → t || false ≡ t
or_false true = refl
or_false false = refl

minus_snoc : (l : List ℕ) (b : ℕ) → has_minus (l ++ (b ∷ [])) ≡ has_minus l || eqb b 45
minus_snoc [] b = or_false (eqb b 45)
minus_snoc (x ∷ l) b = ap (λ (t : Bool). eqb x 45 || t) (minus_snoc l b) ∙ or_assoc (eqb x 45) (has_minus l) (eqb b 45)
  where
    or_assoc : (s t u : Bool) → s || (t || u) ≡ (s || t) || u
    or_assoc true t u = refl
    or_assoc false t u = refl

minus_spaces : (w : ℕ) → has_minus (replicate w 32) ≡ false
minus_spaces zero = refl
minus_spaces (suc w) = minus_spaces w

minus_pad : (neg : Bool) (w : ℕ) → has_minus (pad (mark neg) (suc w)) ≡ neg
minus_pad true w = minus_snoc (replicate w 32) 45 ∙ ap (λ (t : Bool). t || true) (minus_spaces w)
minus_pad false w = minus_snoc (replicate w 32) 32 ∙ ap (λ (t : Bool). t || false) (minus_spaces w)

minus_text : (neg : Bool) (k n : ℕ) → 1 ≤ k → n < 10 ^ k → has_minus (text (mark neg) (suc k) n) ≡ neg
minus_text neg zero n i h = absurd (omega arith)
minus_text neg (suc k) n i h =
    let x : ℕ = 48 + n % 10 in
    let p : 10 ^ suc k ≡ 10 ^ k * 10 = pow-suc 10 k in
    let z : 48 + n % 10 ≡ 45 → ⊥ = λ e. omega arith in
    let last : (f : List ℕ) → has_minus f ≡ neg → has_minus (f ++ (x ∷ [])) ≡ neg =
    λ f e. minus_snoc f x ∙ ap₂ (λ (s t : Bool). s || t) e (ne_eqb _ _ z) ∙ or_false neg in
    by_test (λ (f : List ℕ). has_minus (f ++ (x ∷ [])) ≡ neg) (ltb n 10) (pad (mark neg) (suc k)) (text (mark neg) (suc k) (n / 10))
    (λ _. last (pad (mark neg) (suc k)) (minus_pad neg k))
    (λ e. last (text (mark neg) (suc k) (n / 10)) (minus_text neg k (n / 10) (room k n (ltb-false _ _ e) h) (omega arith)))
  where
    room : (k n : ℕ) → 10 ≤ n → n < 10 ^ suc k → 1 ≤ k
    room zero n l h = absurd (omega arith)
    room (suc k) n l h = omega arith

-- ---- a column is read as a number exactly when it is the column of that number

module _ (neg : Bool) (n : ℕ) (h : n < limit) where
  fits : n < 10 ^ 20
  fits = omega arith

  column_seen : scan_to (column neg n) 21 ≡ Number neg n
  unfolding column
  column_seen = scan_text neg 20 n (omega arith) fits h

  pub column_decimal : decimal (column neg n) ≡ n
  unfolding column decimal
  column_decimal = decimal_text neg 21 n (omega (arith, fits))

  pub column_minus : has_minus (column neg n) ≡ neg
  unfolding column
  column_minus = minus_text neg 20 n (omega arith) fits

  pub scan_column : scan (column neg n) ≡ Some (number neg n)
  unfolding scan
  scan_column = simp (column_minus, column_decimal, same_refl (column neg n), lt-ltb _ _ h)

pub scan_was : (c : List ℕ) (neg : Bool) (n : ℕ) → scan c ≡ Some (number neg n) → (c ≡ column neg n) × (n < limit)
unfolding scan
scan_was c neg n =
    by_test (λ s. s ≡ Some (number neg n) → (c ≡ column neg n) × (n < limit)) (same c (column (has_minus c) (decimal c)) && ltb (decimal c) limit) _ _
    (λ t e.
    let b = both (same c (column (has_minus c) (decimal c))) (ltb (decimal c) limit) t in
    let r : number (has_minus c) (decimal c) ≡ number neg n = cc in
    let m : has_minus c ≡ neg = ap (λ (x : declared.Number). x.negative) r in
    let d : decimal c ≡ n = ap (λ (x : declared.Number). x.value) r in
    (same_eq c _ b.0 ∙ ap₂ (λ (x : Bool) (k : ℕ). column x k) m d, rw d at (ltb-true (decimal c) limit b.1)))
    (λ _ e. let z : ◌≡◌ {A = ℕ} 0 1 = cc in absurd (omega arith))

-- what a scan of a whole column gives
abbrev pub finish : Seen → Option declared.Number
finish (Number neg v) = Some (number neg v)
finish Blank = None
finish Minus = None
finish Bad = None

-- no number is read where the bytes are no number's column
pub no_number : (c : List ℕ) → ((neg : Bool) (n : ℕ) → scan c ≡ Some (number neg n) → ⊥) → None ≡ scan c
no_number c h = go (scan c) refl
  where
    go : (r : Option declared.Number) → scan c ≡ r → None ≡ r
    go None e = refl
    go (Some n) e = absurd (h n.negative n.value e)

module _ (c : List ℕ) (long : length c ≡ 21) where
  is_column : (neg : Bool) (v : ℕ) → scan_to c 21 ≡ Number neg v → (c ≡ column neg v) × (v < limit)
  unfolding column Means
  is_column neg v e =
      let m = subst (λ (s : Seen). Means 21 s (take 21 c)) e (means c 21 (omega arith)) in
      (sym (take_all 21 c (omega arith)) ∙ m.0, m.1)

  none : (s : Seen) → scan_to c 21 ≡ s → ((neg : Bool) (n : ℕ) → s ≡ Number neg n → ⊥) → None ≡ scan c
  none s e h =
      no_number c (λ neg n f.
      let w = scan_was c neg n f in
      h neg n (sym e ∙ ap (λ (x : List ℕ). scan_to x 21) w.0 ∙ column_seen neg n w.1))

  pub scan_is : finish (scan_to c 21) ≡ scan c
  scan_is = go (scan_to c 21) refl
    where
      go : (s : Seen) → scan_to c 21 ≡ s → finish s ≡ scan c
      go (Number neg v) e =
          let w = is_column neg v e in
          sym (ap scan w.0 ∙ scan_column neg v w.1)
      go Blank e = none Blank e (λ neg n f. let z : ◌≡◌ {A = ℕ} 0 1 = cc in omega arith)
      go Minus e = none Minus e (λ neg n f. let z : ◌≡◌ {A = ℕ} 0 1 = cc in omega arith)
      go Bad e = none Bad e (λ neg n f. let z : ◌≡◌ {A = ℕ} 0 1 = cc in omega arith)

pub length_column : (neg : Bool) (n : ℕ) → length (column neg n) ≡ 21
unfolding column
length_column neg n = length_text (mark neg) 21 n

-- bytes of another length are no column
pub scan_length : (c : List ℕ) → (length c ≡ 21 → ⊥) → None ≡ scan c
scan_length c h = no_number c (λ neg n e. h (ap length (scan_was c neg n e).0 ∙ length_column neg n))
