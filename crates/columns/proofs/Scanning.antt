-- A column scanned byte by byte says what its bytes are, and the column of a number is scanned as that number. Assumes nothing.
use Prim.Native.Nat.{ℕ, zero, suc, ◌+◌, ◌-◌, ◌*◌, ◌/◌, ◌%◌, ◌^◌, ◌≤◌, ◌<◌}
use mathlib.Core.Path.{◌≡◌, refl, sym, ap, ◌∙◌}
use mathlib.Core.List.{List, [], ◌∷◌, ◌++◌}
use mathlib.Core.Bool.{Bool, true, false, cond}
use native.Mathlib.Omega.{arith}
use native.Mathlib.Numerals.{add-one, unary_clauses}
use native.Mathlib.Nat.{pow-suc}
use lib.ListN.{length, get_or, take, replicate, length-append, length-replicate, replicate-append-replicate, get_or-append, get_or-replicate}
use lib.Seq.{take-suc, get_or_at}
use lib.Dec.{ltb, leb, eqb}
use borrow.Author.Tests.{ltb-true, ltb-false, leb-true, eqb-true, eqb-false, lt-ltb, le-ltb, le-leb, lt-leb, ne_eqb}
use Rattle.columns.specs.Column.{mark, pad, text}
use Rattle.columns.specs.Scan.{limit}

-- ---- the scan: spaces, at most one minus, then a number below the limit with no zero before another digit

-- what has been read of a column so far
pub data Seen : Type 0 where
  Blank : Seen
  Minus : Seen
  Number : Bool → ℕ → Seen
  Bad : Seen

-- the number of a digit, and 10 for any other byte
unfoldable pub digit_of : ℕ → ℕ
digit_of b = cond (ltb b 48) 10 (cond (leb b 57) (b - 48) 10)

abbrev pub digit_then : ℕ → Seen → Seen
digit_then d x = cond (leb d 9) x Bad

abbrev pub step_of : Seen → ℕ → Seen
step_of Blank b = cond (eqb b 32) Blank (cond (eqb b 45) Minus (digit_then (digit_of b) (Number false (digit_of b))))
step_of Minus b = digit_then (digit_of b) (Number true (digit_of b))
step_of (Number neg v) b =
    digit_then (digit_of b)
    (cond (eqb v 0) Bad (cond (ltb (v * 10 + digit_of b) limit) (Number neg (v * 10 + digit_of b)) Bad))
step_of Bad b = Bad

-- what is read of the first n bytes
abbrev pub scan_to : List ℕ → ℕ → Seen
scan_to c zero = Blank
scan_to c (suc n) = step_of (scan_to c n) (get_or c n 0)

-- ---- what is read of some bytes says what they are

-- a case of a test
pub by_test : {A : Type 0} (P : A → Type 0) (t : Bool) (x y : A) → (t ≡ true → P x) → (t ≡ false → P y) → P (cond t x y)
by_test P true x y f g = f refl
by_test P false x y f g = g refl

digit_byte : (b : ℕ) → digit_of b ≤ 9 → b ≡ 48 + digit_of b
unfolding digit_of
digit_byte b =
    by_test (λ d. d ≤ 9 → b ≡ 48 + d) (ltb b 48) 10 (cond (leb b 57) (b - 48) 10)
    (λ _ h. omega arith)
    (λ e. by_test (λ d. d ≤ 9 → b ≡ 48 + d) (leb b 57) (b - 48) 10 (λ _ h. omega (arith, ltb-false b 48 e)) (λ _ h. omega arith))

pub digit_of_lem : (d : ℕ) → d ≤ 9 → digit_of (48 + d) ≡ d
unfolding digit_of
digit_of_lem d h =
    let a : 48 ≤ 48 + d = omega arith in
    let b : 48 + d ≤ 57 = omega arith in
    let e : 48 + d - 48 ≡ d = omega arith in
    simp (le-ltb _ _ a, le-leb _ _ b) e

pub replicate_snoc : (w : ℕ) → ◌++◌ {A = ℕ} (replicate w 32) (32 ∷ []) ≡ replicate (suc w) 32
replicate_snoc w = replicate-append-replicate w 1 32 ∙ ap (λ (k : ℕ). replicate k 32) (add-one w)

pad_space : (w : ℕ) → pad 32 w ≡ replicate w 32
pad_space zero = refl
pad_space (suc w) = replicate_snoc w

-- what w bytes are, of which a scan says so
unfoldable pub Means : ℕ → Seen → List ℕ → Type 0
Means w Blank l = l ≡ replicate w 32
Means w Minus l = l ≡ pad 45 w
Means w (Number neg v) l = (l ≡ text (mark neg) w v) × (v < limit)
Means w Bad l = Unit {0}

-- a digit after a mark, and a digit after a number
text_one : (m w d : ℕ) → d ≤ 9 → text m (suc w) d ≡ pad m w ++ ((48 + d) ∷ [])
text_one m w d h =
    let a : d < 10 = omega arith in
    let e : d % 10 ≡ d = omega arith in
    simp (lt-ltb _ _ a, e)

text_more : (m w v d : ℕ) → d ≤ 9 → (v ≡ 0 → ⊥) → text m (suc w) (v * 10 + d) ≡ text m w v ++ ((48 + d) ∷ [])
text_more m w v d h n =
    let a : 10 ≤ v * 10 + d = omega (arith, n) in
    let e : (v * 10 + d) % 10 ≡ d = omega arith in
    let q : (v * 10 + d) / 10 ≡ v = omega arith in
    simp (le-ltb _ _ a, e, q)

means_step : (w : ℕ) (st : Seen) (l : List ℕ) (b : ℕ) → Means w st l → Means (suc w) (step_of st b) (l ++ (b ∷ []))
unfolding Means
means_step w Blank l b m =
    by_test (λ s. Means (suc w) s (l ++ (b ∷ []))) (eqb b 32) Blank _
    (λ e. rw (m, eqb-true b 32 e) (replicate_snoc w))
    (λ _. by_test (λ s. Means (suc w) s (l ++ (b ∷ []))) (eqb b 45) Minus _
    (λ e. rw (m, eqb-true b 45 e) refl)
    (λ _. by_test (λ s. Means (suc w) s (l ++ (b ∷ []))) (leb (digit_of b) 9) (Number false (digit_of b)) Bad
    (λ e.
    let h : digit_of b ≤ 9 = leb-true _ _ e in
    (ap (λ (x : List ℕ). x ++ (b ∷ [])) (m ∙ sym (pad_space w)) ∙ ap (λ (x : ℕ). pad 32 w ++ (x ∷ [])) (digit_byte b h) ∙ sym (text_one 32 w (digit_of b) h), omega arith))
    (λ _. tt)))
means_step w Minus l b m =
    by_test (λ s. Means (suc w) s (l ++ (b ∷ []))) (leb (digit_of b) 9) (Number true (digit_of b)) Bad
    (λ e.
    let h : digit_of b ≤ 9 = leb-true _ _ e in
    (ap (λ (x : List ℕ). x ++ (b ∷ [])) m ∙ ap (λ (x : ℕ). pad 45 w ++ (x ∷ [])) (digit_byte b h) ∙ sym (text_one 45 w (digit_of b) h), omega arith))
    (λ _. tt)
means_step w (Number neg v) l b m =
    by_test (λ s. Means (suc w) s (l ++ (b ∷ []))) (leb (digit_of b) 9) _ Bad
    (λ e. by_test (λ s. Means (suc w) s (l ++ (b ∷ []))) (eqb v 0) Bad _
    (λ _. tt)
    (λ z. by_test (λ s. Means (suc w) s (l ++ (b ∷ []))) (ltb (v * 10 + digit_of b) limit) (Number neg (v * 10 + digit_of b)) Bad
    (λ f.
    let h : digit_of b ≤ 9 = leb-true _ _ e in
    (ap (λ (x : List ℕ). x ++ (b ∷ [])) m.0 ∙ ap (λ (x : ℕ). text (mark neg) w v ++ (x ∷ [])) (digit_byte b h) ∙ sym (text_more (mark neg) w v (digit_of b) h (eqb-false v 0 z)), ltb-true _ _ f))
    (λ _. tt)))
    (λ _. tt)
means_step w Bad l b m = tt

-- what is read of the first w bytes is what they are
pub means : (c : List ℕ) (w : ℕ) → w ≤ length c → Means w (scan_to c w) (take w c)
unfolding Means
means c zero h = refl
means c (suc w) h =
    rw (take-suc c w 0 (omega arith)) (means_step w (scan_to c w) (take w c) (get_or c w 0) (means c w (omega arith)))

-- ---- the text of a number is scanned as that number

-- bytes after those that are read do not count
scan_prefix : (a b : List ℕ) (n : ℕ) → n ≤ length a → scan_to (a ++ b) n ≡ scan_to a n
scan_prefix a b zero h = refl
scan_prefix a b (suc n) h =
    let i : n < length a = omega arith in
    ap (λ (s : Seen). step_of s (get_or (a ++ b) n 0)) (scan_prefix a b n (omega arith))
    ∙ ap (λ (x : ℕ). step_of (scan_to a n) x) (get_or-append a b 0 n i)

scan_snoc : (f : List ℕ) (x k : ℕ) → length f ≡ k → scan_to (f ++ (x ∷ [])) (suc k) ≡ step_of (scan_to f k) x
scan_snoc f x k e =
    ap (λ (s : Seen). step_of s (get_or (f ++ (x ∷ [])) k 0)) (scan_prefix f (x ∷ []) k (omega arith))
    ∙ ap (λ (y : ℕ). step_of (scan_to f k) y) (get_or_at f x [] 0 k e)

pub length_pad : (m w : ℕ) → length (pad m w) ≡ w
length_pad m zero = refl
length_pad m (suc w) = simp (length-append, length-replicate, add-one)

pub length_text : (m w n : ℕ) → length (text m w n) ≡ w
length_text m zero n = refl
length_text m (suc w) n =
    by_test (λ (f : List ℕ). length (f ++ ((48 + n % 10) ∷ [])) ≡ suc w) (ltb n 10) (pad m w) (text m w (n / 10))
    (λ _. length-append (pad m w) _ ∙ ap (λ (k : ℕ). k + 1) (length_pad m w) ∙ add-one w)
    (λ _. length-append (text m w (n / 10)) _ ∙ ap (λ (k : ℕ). k + 1) (length_text m w (n / 10)) ∙ add-one w)

blank_run : (w n : ℕ) → n ≤ w → scan_to (replicate w 32) n ≡ Blank
blank_run w zero h = refl
blank_run w (suc n) h =
    ap (λ (s : Seen). step_of s (get_or (replicate w 32) n 0)) (blank_run w n (omega arith))
    ∙ ap (λ (x : ℕ). step_of Blank x) (get_or-replicate w n 32 0 (omega arith))

-- what the bytes before the digits read as
abbrev pub led : Bool → Seen
led true = Minus
led false = Blank

scan_pad : (neg : Bool) (w : ℕ) → scan_to (pad (mark neg) (suc w)) (suc w) ≡ led neg
scan_pad true w = scan_snoc (replicate w 32) 45 w (length-replicate w 32) ∙ ap (λ (s : Seen). step_of s 45) (blank_run w w (omega arith))
scan_pad false w = scan_snoc (replicate w 32) 32 w (length-replicate w 32) ∙ ap (λ (s : Seen). step_of s 32) (blank_run w w (omega arith))

first_digit : (neg : Bool) (d : ℕ) → d ≤ 9 → step_of (led neg) (48 + d) ≡ Number neg d
first_digit true d h = simp (digit_of_lem d h, le-leb _ _ h)
first_digit false d h =
    let a : 48 + d ≡ 32 → ⊥ = λ e. omega arith in
    let b : 48 + d ≡ 45 → ⊥ = λ e. omega arith in
    simp (ne_eqb _ _ a, ne_eqb _ _ b, digit_of_lem d h, le-leb _ _ h)

next_digit : (neg : Bool) (v d : ℕ) → d ≤ 9 → (v ≡ 0 → ⊥) → v * 10 + d < limit → step_of (Number neg v) (48 + d) ≡ Number neg (v * 10 + d)
next_digit neg v d h n f = simp (digit_of_lem d h, le-leb _ _ h, ne_eqb _ _ n, lt-ltb _ _ f)

pub scan_text : (neg : Bool) (k n : ℕ) → 1 ≤ k → n < 10 ^ k → n < limit → scan_to (text (mark neg) (suc k) n) (suc k) ≡ Number neg n
scan_text neg zero n k1 h f = absurd (omega arith)
scan_text neg (suc k) n k1 h f =
    let x : ℕ = 48 + n % 10 in
    let p : 10 ^ suc k ≡ 10 ^ k * 10 = pow-suc 10 k in
    by_test (λ (g : List ℕ). scan_to (g ++ (x ∷ [])) (suc (suc k)) ≡ Number neg n) (ltb n 10) (pad (mark neg) (suc k)) (text (mark neg) (suc k) (n / 10))
    (λ e.
    let l : n < 10 = ltb-true _ _ e in
    let q : n % 10 ≡ n = omega arith in
    scan_snoc (pad (mark neg) (suc k)) x (suc k) (length_pad (mark neg) (suc k))
    ∙ ap (λ (s : Seen). step_of s x) (scan_pad neg k)
    ∙ first_digit neg (n % 10) (omega arith)
    ∙ ap (λ (y : ℕ). Number neg y) q)
    (λ e.
    let l : 10 ≤ n = ltb-false _ _ e in
    let q : n / 10 * 10 + n % 10 ≡ n = omega arith in
    let z : n / 10 ≡ 0 → ⊥ = λ y. omega arith in
    scan_snoc (text (mark neg) (suc k) (n / 10)) x (suc k) (length_text (mark neg) (suc k) (n / 10))
    ∙ ap (λ (s : Seen). step_of s x) (scan_text neg k (n / 10) (room k n l h) (omega arith) (omega arith))
    ∙ next_digit neg (n / 10) (n % 10) (omega arith) z (omega arith)
    ∙ ap (λ (y : ℕ). Number neg y) q)
  where
    room : (k n : ℕ) → 10 ≤ n → n < 10 ^ suc k → 1 ≤ k
    room zero n l h = absurd (omega arith)
    room (suc k) n l h = omega arith

-- ---- the ways through a scan

module _ (c : List ℕ) where
  -- no byte makes good what is bad, or has a leading zero
  pub bad_stays : (i k : ℕ) → scan_to c i ≡ Bad → scan_to c (i + k) ≡ Bad
  bad_stays i zero e = simp unary_clauses e
  bad_stays i (suc k) e = simp unary_clauses (ap (λ (s : Seen). step_of s (get_or c (i + k) 0)) (bad_stays i k e))

-- a byte that is no digit, below the digits or above them
pub below_digits : (b : ℕ) → b < 48 → digit_of b ≡ 10
unfolding digit_of
below_digits b h = simp (lt-ltb _ _ h)

pub above_digits : (b : ℕ) → 57 < b → digit_of b ≡ 10
unfolding digit_of
above_digits b h =
    let a : 48 ≤ b = omega arith in
    simp (le-ltb _ _ a, lt-leb _ _ h)

pub a_digit : (b : ℕ) → 48 ≤ b → b ≤ 57 → digit_of b ≡ b - 48
unfolding digit_of
a_digit b g h = simp (le-ltb _ _ g, le-leb _ _ h)
