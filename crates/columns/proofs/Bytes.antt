-- A column read byte by byte: spaces, a minus or none, and digits. Assumes nothing.
use Prim.Native.Nat.{ℕ, zero, suc, ◌+◌, ◌-◌, ◌*◌, ◌≤◌, ◌<◌}
use mathlib.Core.Path.{◌≡◌, refl, sym, ap, ap₂, ◌∙◌}
use mathlib.Core.List.{List, [], ◌∷◌, ◌++◌}
use mathlib.Core.Bool.{Bool, true, false, cond, ◌&&◌, true≢false}
use native.Mathlib.Omega.{arith}
use native.Mathlib.Numerals.{add-one}
use lib.ListN.{length, get_or, take, drop, drop_of_length-le}
use lib.Seq.{take-suc, take_all, drop-cons}
use lib.Dec.{ltb, leb, eqb}
use borrow.Author.Tests.{leb-true, leb-false, eqb-true, eqb-false, lt-ltb, le-leb, eq-eqb, ne_eqb}
use Rattle.std.specs.Prelude.{Option, Some, None, option_map, option_and_then, nat_eq}
use Rattle.std.specs.Cmp.Lexicographic.{pointwise}
use Rattle.std.specs.Bool.{then_some}
use Rattle.columns.specs.declared.scan.Number as declared
use Rattle.columns.specs.Scan.{limit, number, scan}
use Rattle.columns.specs.ScanSteps.{value_with, value_after, after_spaces, minus_first, after_minus, is_digit}
use Rattle.columns.proofs.Scanning.{Seen, Blank, Minus, Number, Bad, digit_of, digit_then, step_of, scan_to, digit_of_lem, below_digits, above_digits, a_digit}
use Rattle.columns.proofs.Inverse.{both, finish, scan_is}

-- ---- bytes after what has been read

abbrev read_on : Seen → List ℕ → Seen
read_on s [] = s
read_on s (b ∷ l) = read_on (step_of s b) l

read_snoc : (s : Seen) (l : List ℕ) (b : ℕ) → read_on s (l ++ (b ∷ [])) ≡ step_of (read_on s l) b
read_snoc s [] b = refl
read_snoc s (x ∷ l) b = read_snoc (step_of s x) l b

read_to : (c : List ℕ) (n : ℕ) → n ≤ length c → read_on Blank (take n c) ≡ scan_to c n
read_to c zero h = refl
read_to c (suc n) h =
    ap (λ (l : List ℕ). read_on Blank l) (take-suc c n 0 (omega arith))
    ∙ read_snoc Blank (take n c) (get_or c n 0)
    ∙ ap (λ (s : Seen). step_of s (get_or c n 0)) (read_to c n (omega arith))

read_bad : (l : List ℕ) → read_on Bad l ≡ Bad
read_bad [] = refl
read_bad (b ∷ l) = read_bad l

read_all : (c : List ℕ) → length c ≡ 21 → finish (read_on Blank c) ≡ scan c
read_all c long =
    ap finish (ap (λ (l : List ℕ). read_on Blank l) (sym (take_all 21 c (omega arith))) ∙ read_to c 21 (omega arith)) ∙ scan_is c long

-- ---- digits

-- a byte that is a digit, and one that is not
is_digit_of : (b : ℕ) → is_digit b ≡ true → (digit_of b ≡ b - 48) × (b - 48 ≤ 9) × (48 ≤ b)
is_digit_of b e =
    let t = both (leb 48 b) (leb b 57) e in
    let l : 48 ≤ b = leb-true _ _ t.0 in
    let h : b ≤ 57 = leb-true _ _ t.1 in
    (a_digit b l h, omega arith, l)

no_digit_of : (b : ℕ) → is_digit b ≡ false → digit_of b ≡ 10
no_digit_of b e = by (leb 48 b) refl (leb b 57) refl e
  where
    by : (s : Bool) → leb 48 b ≡ s → (t : Bool) → leb b 57 ≡ t → s && t ≡ false → digit_of b ≡ 10
    by false f t g h = below_digits b (leb-false _ _ f)
    by true f false g h = above_digits b (leb-false _ _ g)
    by true f true g h = absurd (true≢false h)

number_read : (neg : Bool) (v : ℕ) (l : List ℕ) → (v ≡ 0 → ⊥) → finish (read_on (Number neg v) l) ≡ option_map (number neg) (value_after v l)
unfolding value_after value_with
number_read neg v [] n = refl
number_read neg v (b ∷ l) n = by (is_digit b) refl (ltb (v * 10 + (b - 48)) limit) refl (number_read neg (v * 10 + (b - 48)) l)
  where
    by : (s : Bool) → is_digit b ≡ s → (t : Bool) → ltb (v * 10 + (b - 48)) limit ≡ t
        → ((v * 10 + (b - 48) ≡ 0 → ⊥) → finish (read_on (Number neg (v * 10 + (b - 48))) l) ≡ option_map (number neg) (value_after (v * 10 + (b - 48)) l))
        → finish (read_on (step_of (Number neg v) b) l) ≡ option_map (number neg) (value_after v (b ∷ l))
    by false e t f more = rw (no_digit_of b e, e) (ap finish (read_bad l))
    by true e false f more =
        let d = is_digit_of b e in
        rw (d.0, le-leb _ _ d.1, ne_eqb _ _ n, f, e) (ap finish (read_bad l))
    by true e true f more =
        let d = is_digit_of b e in
        rw (d.0, le-leb _ _ d.1, ne_eqb _ _ n, f, e) (more (λ w. n (omega arith)))

-- the digits of a list from the place i on, after those of v
module _ (l : List ℕ) (i v : ℕ) (r : Option ℕ) (e : value_after v (drop i l) ≡ r) where
  value_next : i < length l → option_and_then (λ (w : ℕ). value_after w (drop (i + 1) l)) (value_with v (get_or l i 0)) ≡ r
  unfolding value_after
  value_next h =
      ap (λ (k : ℕ). option_and_then (λ (w : ℕ). value_after w (drop k l)) (value_with v (get_or l i 0))) (add-one i)
      ∙ sym (ap (λ (x : List ℕ). value_after v x) (drop-cons l i 0 h))
      ∙ e

  pub value_step : (w : ℕ) → i < length l → value_with v (get_or l i 0) ≡ Some w → value_after w (drop (i + 1) l) ≡ r
  value_step w h f = sym (ap (λ (o : Option ℕ). option_and_then (λ (x : ℕ). value_after x (drop (i + 1) l)) o) f) ∙ value_next h

  pub value_stop : i < length l → value_with v (get_or l i 0) ≡ None → None ≡ r
  value_stop h f = sym (ap (λ (o : Option ℕ). option_and_then (λ (x : ℕ). value_after x (drop (i + 1) l)) o) f) ∙ value_next h

  pub value_end : length l ≤ i → Some v ≡ r
  unfolding value_after
  value_end h = sym (ap (λ (x : List ℕ). value_after v x) (drop_of_length-le l h)) ∙ e

-- ---- a byte in front

pub stripped : (b : ℕ) (text rest : List ℕ) → pointwise nat_eq (take 1 text) (b ∷ []) ≡ true → rest ≡ drop 1 text → text ≡ b ∷ rest
stripped b [] rest e f = absurd (true≢false (sym e))
stripped b (x ∷ l) rest e f = ap₂ (λ (h : ℕ) (t : List ℕ). h ∷ t) (eqb-true x b (both (eqb x b) true e).0) (sym f)

pub not_stripped : (b : ℕ) (text rest : List ℕ) → pointwise nat_eq (take 1 text) (b ∷ []) ≡ false → text ≡ b ∷ rest → ⊥
not_stripped b text rest e f =
    let g : pointwise nat_eq (take 1 text) (b ∷ []) ≡ true = ap (λ (l : List ℕ). pointwise nat_eq (take 1 l) (b ∷ [])) f ∙ rw (eq-eqb b b refl) refl in
    true≢false (sym g ∙ e)

-- ---- spaces, and a minus

pub spaces_more : (text rest : List ℕ) → text ≡ 32 ∷ rest → after_spaces rest ≡ after_spaces text
unfolding after_spaces
spaces_more text rest e = sym (ap after_spaces e)

pub spaces_end : (text : List ℕ) → ((rest : List ℕ) → text ≡ 32 ∷ rest → ⊥) → text ≡ after_spaces text
unfolding after_spaces
spaces_end [] h = refl
spaces_end (b ∷ l) h = rw (ne_eqb b 32 (λ e. h l (ap (λ (x : ℕ). x ∷ l) e))) refl

pub minus_there : (text : List ℕ) → pointwise nat_eq (take 1 text) (45 ∷ []) ≡ true → true ≡ minus_first text
unfolding minus_first
minus_there text e = sym (ap minus_first (stripped 45 text _ e refl))

pub minus_left : (text rest : List ℕ) → pointwise nat_eq (take 1 text) (45 ∷ []) ≡ true → rest ≡ drop 1 text → rest ≡ after_minus text
unfolding after_minus
minus_left text rest e f = sym (ap after_minus (stripped 45 text rest e f))

pub minus_none : (text : List ℕ) → ((rest : List ℕ) → text ≡ 45 ∷ rest → ⊥) → false ≡ minus_first text
unfolding minus_first
minus_none [] h = refl
minus_none (b ∷ l) h = sym (ne_eqb b 45 (λ e. h l (ap (λ (x : ℕ). x ∷ l) e)))

pub minus_all : (text : List ℕ) → ((rest : List ℕ) → text ≡ 45 ∷ rest → ⊥) → text ≡ after_minus text
unfolding after_minus
minus_all [] h = refl
minus_all (b ∷ l) h = rw (ne_eqb b 45 (λ e. h l (ap (λ (x : ℕ). x ∷ l) e))) refl

-- ---- the whole column

-- what is left after spaces does not begin with one
no_space : (c : List ℕ) (b : ℕ) (l : List ℕ) → after_spaces c ≡ b ∷ l → b ≡ 32 → ⊥
unfolding after_spaces
no_space [] b l e f = cc
no_space (x ∷ c) b l e f = by (eqb x 32) refl e (no_space c b l)
  where
    by : (t : Bool) → eqb x 32 ≡ t → cond t (after_spaces c) (x ∷ c) ≡ b ∷ l → (after_spaces c ≡ b ∷ l → b ≡ 32 → ⊥) → ⊥
    by true g h i = i h f
    by false g h i = let j : x ≡ b = cc in eqb-false x 32 g (j ∙ f)

spaces_read : (c : List ℕ) → read_on Blank c ≡ read_on Blank (after_spaces c)
unfolding after_spaces
spaces_read [] = refl
spaces_read (b ∷ l) = by (eqb b 32) refl (spaces_read l)
  where
    by : (t : Bool) → eqb b 32 ≡ t → read_on Blank l ≡ read_on Blank (after_spaces l) → read_on (step_of Blank b) l ≡ read_on Blank (cond t (after_spaces l) (b ∷ l))
    by true e i = ap (λ (t : Bool). read_on (cond t Blank (cond (eqb b 45) Minus (digit_then (digit_of b) (Number false (digit_of b))))) l) e ∙ i
    by false e i = refl

-- the bytes after a minus or none, of a text that does not begin with a space: the first of them is a digit, or none is read
first_read : (text : List ℕ) → ((b : ℕ) (l : List ℕ) → text ≡ b ∷ l → b ≡ 32 → ⊥) → (b : ℕ) (l : List ℕ) → after_minus text ≡ b ∷ l
    → read_on Blank text ≡ read_on (digit_then (digit_of b) (Number (minus_first text) (digit_of b))) l
unfolding minus_first after_minus
first_read [] n b l e = cc
first_read (x ∷ rest) n b l e = by (eqb x 45) refl e
  where
    s : eqb x 32 ≡ false
    s = ne_eqb x 32 (n x rest refl)

    by : (t : Bool) → eqb x 45 ≡ t → cond t rest (x ∷ rest) ≡ b ∷ l
        → read_on (step_of Blank x) rest ≡ read_on (digit_then (digit_of b) (Number t (digit_of b))) l
    by true f g = rw (s, f) (ap (λ (k : List ℕ). read_on Minus k) g)
    by false f g =
        let h : x ≡ b = cc in
        let i : rest ≡ l = cc in
        rw (s, f, sym h, sym i) refl

-- no byte is left after spaces and a minus
only_led : (text : List ℕ) → after_minus text ≡ [] → finish (read_on Blank text) ≡ None
unfolding after_minus
only_led [] f = refl
only_led (x ∷ rest) f = by (eqb x 45) refl f
  where
    by : (t : Bool) → eqb x 45 ≡ t → cond t rest (x ∷ rest) ≡ [] → finish (read_on (step_of Blank x) rest) ≡ None
    by true e g = rw (eqb-true x 45 e, g) refl
    by false e g = cc

-- a byte after a first 0
zero_then : (neg : Bool) (b : ℕ) → step_of (Number neg 0) b ≡ Bad
zero_then neg b = either (leb (digit_of b) 9)
  where
    either : (t : Bool) → cond t Bad Bad ≡ Bad
    either true = refl
    either false = refl

value_read : (neg : Bool) (v : ℕ) (l : List ℕ) → (v ≡ 0 → l ≡ []) → option_map (number neg) (value_after v l) ≡ finish (read_on (Number neg v) l)
unfolding value_after
value_read neg v [] n = refl
value_read neg v (b ∷ l) n = sym (number_read neg v (b ∷ l) (λ e. let f = n e in cc))

first_value : (neg : Bool) (b : ℕ) (rest : List ℕ) → (b ≡ 48 → rest ≡ [])
    → option_map (number neg) (value_after 0 (b ∷ rest)) ≡ finish (read_on (digit_then (digit_of b) (Number neg (digit_of b))) rest)
unfolding value_after value_with
first_value neg b rest z = by (is_digit b) refl
  where
    by : (t : Bool) → is_digit b ≡ t
        → option_map (number neg) (value_after 0 (b ∷ rest)) ≡ finish (read_on (digit_then (digit_of b) (Number neg (digit_of b))) rest)
    by false e = rw (e, no_digit_of b e) (sym (ap finish (read_bad rest)))
    by true e =
        let d = is_digit_of b e in
        let s : 0 * 10 + (b - 48) ≡ b - 48 = omega arith in
        let l : b - 48 < limit = omega (arith, d.1) in
        rw (e, d.0, le-leb _ _ d.1, s, lt-ltb _ _ l) (value_read neg (b - 48) rest (λ k. z (omega (arith, d.2))))

-- by the digits that are left after spaces and a minus
module _ (c : List ℕ) (long : length c ≡ 21) (text : List ℕ) (spaces : text ≡ after_spaces c)
    (digits : List ℕ) (neg : Bool) (sign : neg ≡ minus_first text) (there : digits ≡ after_minus text) where
  text_read : read_on Blank text ≡ read_on Blank c
  text_read = ap (λ (l : List ℕ). read_on Blank l) spaces ∙ sym (spaces_read c)

  digits_read : (b : ℕ) (l : List ℕ) → digits ≡ b ∷ l → finish (read_on (digit_then (digit_of b) (Number neg (digit_of b))) l) ≡ scan c
  digits_read b l e =
      ap (λ (n : Bool). finish (read_on (digit_then (digit_of b) (Number n (digit_of b))) l)) sign
      ∙ ap finish (sym (first_read text (λ x t f. no_space c x t (sym spaces ∙ f)) b l (sym there ∙ e)) ∙ text_read)
      ∙ read_all c long

  pub no_digits : length digits ≡ 0 → None ≡ scan c
  no_digits n = go digits refl n
    where
      go : (l : List ℕ) → digits ≡ l → length l ≡ 0 → None ≡ scan c
      go [] e m = sym (only_led text (sym there ∙ e)) ∙ ap finish text_read ∙ read_all c long
      go (b ∷ l) e m = absurd (omega arith)

  zero_first : (b : ℕ) (rest : List ℕ) → digits ≡ b ∷ rest → b ≡ 48 → (length rest ≡ 0 → ⊥) → None ≡ scan c
  zero_first b [] e z n = absurd (n refl)
  zero_first b (x ∷ l) e z n =
      let d : digit_of b ≡ 0 = ap digit_of z ∙ digit_of_lem 0 (omega arith) in
      ap finish (sym (read_bad l))
      ∙ ap (λ (s : Seen). finish (read_on s l)) (sym (zero_then neg x))
      ∙ ap (λ (k : ℕ). finish (read_on (digit_then k (Number neg k)) (x ∷ l))) (sym d)
      ∙ digits_read b (x ∷ l) e

  zero_value : (b : ℕ) (rest : List ℕ) → digits ≡ b ∷ rest → b ≡ 48 → (alone : Bool) → alone ≡ eqb (length rest) 0 → then_some alone (number neg 0) ≡ scan c
  zero_value b [] e z alone f =
      ap (λ (t : Bool). then_some t (number neg 0)) f
      ∙ sym (ap (λ (k : ℕ). finish (read_on (digit_then k (Number neg k)) [])) (ap digit_of z ∙ digit_of_lem 0 (omega arith)))
      ∙ digits_read b [] e
  zero_value b (x ∷ l) e z alone f =
      ap (λ (t : Bool). then_some t (number neg 0)) (f ∙ ne_eqb (length (x ∷ l)) 0 (λ n. omega arith))
      ∙ zero_first b (x ∷ l) e z (λ n. omega arith)

  digits_value : (b : ℕ) (rest : List ℕ) → digits ≡ b ∷ rest → (b ≡ 48 → ⊥) → (o : Option ℕ) → o ≡ value_after 0 digits → option_map (number neg) o ≡ scan c
  digits_value b rest e z o f =
      ap (λ (x : Option ℕ). option_map (number neg) x) (f ∙ ap (λ (l : List ℕ). value_after 0 l) e)
      ∙ first_value neg b rest (λ k. absurd (z k))
      ∙ digits_read b rest e

  pub no_value : (b : ℕ) (rest : List ℕ) → digits ≡ b ∷ rest → (b ≡ 48 → ⊥) → None ≡ value_after 0 digits → None ≡ scan c
  no_value b rest e z f = digits_value b rest e z None f

-- and the number that is given
module _ (c : List ℕ) (long : length c ≡ 21) (text : List ℕ) (spaces : text ≡ after_spaces c) (digits : List ℕ) (there : digits ≡ after_minus text)
    (b : ℕ) (rest : List ℕ) (first : digits ≡ b ∷ rest) (x : declared.Number) (sign : x.negative ≡ minus_first text) where
  pub a_zero : b ≡ 48 → x.value ≡ 0 → (alone : Bool) → alone ≡ eqb (length rest) 0 → then_some alone x ≡ scan c
  a_zero z v alone f =
      ap (λ (k : ℕ). then_some alone (number x.negative k)) v
      ∙ zero_value c long text spaces digits x.negative sign there b rest first z alone f

  pub a_value : (b ≡ 48 → ⊥) → Some x.value ≡ value_after 0 digits → Some x ≡ scan c
  a_value z f = digits_value c long text spaces digits x.negative sign there b rest first z (Some x.value) f
