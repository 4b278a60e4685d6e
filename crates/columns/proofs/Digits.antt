-- The digits of a column read in groups: each group is a number, and the numbers make that of the column. Assumes nothing.
use Prim.Native.Nat.{ℕ, zero, suc, ◌+◌, ◌-◌, ◌*◌, ◌/◌, ◌%◌, ◌^◌, ◌≤◌, ◌<◌}
use mathlib.Core.Path.{◌≡◌, refl, sym, ap, ap₂, subst, ◌∙◌}
use mathlib.Core.List.{List}
use mathlib.Core.Bool.{Bool, true, false, ◌&&◌}
use native.Mathlib.Omega.{arith}
use native.Mathlib.Numerals.{add-one, unary_clauses}
use native.Mathlib.Nat.{pow-suc, mul_assoc}
use lib.ListN.{length, get_or, take, drop}
use Rattle.std.proofs.lemmas.List.{get_or-take, get_or-drop}
use borrow.Author.Tests.{leb-true, eqb-true, eqb-false}
use lib.Dec.{leb, eqb}
use Rattle.std.specs.Prelude.{Some, None}
use Rattle.columns.specs.Scan.{limit, number, scan}
use Rattle.columns.specs.ScanSteps.{is_space, is_digit, every, number_at}
use Rattle.columns.proofs.Scanning.{Blank, Number, scan_to}
use Rattle.columns.proofs.Inverse.{both}
use mir.Syntax.{w64}
use Rattle.std.specs.Int.{from_le_bytes}
use Rattle.columns.proofs.Lanes.{word_of, ones_in, fours_in, Joined, joined}
use Rattle.columns.proofs.Ways.{space_more, first_digit, next_digit, too_large, whole}

-- ---- a test of each byte

module _ (p : ℕ → Bool) (c : List ℕ) (at : ℕ) where
  pub every_none : every p c at 0 ≡ true
  unfolding every
  every_none = refl

  -- of one byte more
  pub every_more : (n : ℕ) → every p c at (suc n) ≡ every p c at n && p (get_or c (at + n) 0)
  unfolding every
  every_more n = refl

  every_next : (n b : ℕ) (good : Bool) → good ≡ every p c at n → b ≡ get_or c (at + n) 0 → good && p b ≡ every p c at (n + 1)
  every_next n b good e f = ap₂ (λ (g : Bool) (x : ℕ). g && p x) e f ∙ sym (ap (λ (k : ℕ). every p c at k) (add-one n) ∙ every_more n)

  -- holds of the first and of the last
  pub every_both : (n : ℕ) → every p c at (suc n) ≡ true → (every p c at n ≡ true) × (p (get_or c (at + n) 0) ≡ true)
  every_both n e = both (every p c at n) (p (get_or c (at + n) 0)) (sym (every_more n) ∙ e)

  every_one_more : (n : ℕ) → every p c at n ≡ true → p (get_or c (at + n) 0) ≡ true → every p c at (suc n) ≡ true
  every_one_more n e f = every_more n ∙ rw (e, f)

  -- of one of them
  pub every_at : (i n : ℕ) → every p c at n ≡ true → i < n → p (get_or c (at + i) 0) ≡ true
  every_at i zero e h = absurd (omega arith)
  every_at i (suc n) e h = by (eqb i n) refl (every_both n e) (every_at i n)
    where
      by : (t : Bool) → eqb i n ≡ t → (every p c at n ≡ true) × (p (get_or c (at + n) 0) ≡ true)
          → (every p c at n ≡ true → i < n → p (get_or c (at + i) 0) ≡ true) → p (get_or c (at + i) 0) ≡ true
      by true d b f = rw (eqb-true i n d) b.1
      by false d b f = f b.0 (omega (arith, eqb-false i n d))

-- of two parts
pub every_parts : (p : ℕ → Bool) (c : List ℕ) (at m n : ℕ) → every p c at (m + n) ≡ true → (every p c at m ≡ true) × (every p c (at + m) n ≡ true)
every_parts p c at m zero e =
    let o : m + 0 ≡ m = omega arith in
    (rw o at e, every_none p c (at + m))
every_parts p c at m (suc n) e =
    let q : m + suc n ≡ suc (m + n) = omega arith in
    let i : at + (m + n) ≡ at + m + n = omega arith in
    let b = every_both p c at (m + n) (rw q at e) in
    let h = every_parts p c at m n b.0 in
    (h.0, every_one_more p c (at + m) n h.1 (rw i at b.1))

-- of all, where it holds of the first and of the others
every_front : (p : ℕ → Bool) (c : List ℕ) (at n : ℕ) → p (get_or c at 0) ≡ true → every p c (suc at) n ≡ true → every p c at (suc n) ≡ true
every_front p c at zero f e =
    let o : at + 0 ≡ at = omega arith in
    every_one_more p c at 0 (every_none p c at) (rw o f)
every_front p c at (suc n) f e =
    let b = every_both p c (suc at) n e in
    let q : suc at + n ≡ at + suc n = omega arith in
    every_one_more p c at (suc n) (every_front p c at n f b.0) (rw q at b.1)

-- one more of the first 20, or of the last 19
module _ (c : List ℕ) (i : ℕ) (good : Bool) where
  pub space_next : good ≡ every is_space c 0 i → i < 20 → good && is_space (get_or (take 20 c) i 0) ≡ every is_space c 0 (i + 1)
  space_next e h =
      let z : 0 + i ≡ i = omega arith in
      every_next is_space c 0 i _ good e (rw z (get_or-take 20 c i 0 h))

  pub digit_next : good ≡ every is_digit c 2 i → i < 19 → (d : Bool) → d ≡ is_digit (get_or (take 19 (drop 2 c)) i 0) → good && d ≡ every is_digit c 2 (i + 1)
  digit_next e h d is =
      ap (λ (t : Bool). good && t) is
      ∙ every_next is_digit c 2 i _ good e (get_or-take 19 (drop 2 c) i 0 h ∙ get_or-drop 2 c i 0)

-- ---- digits as a number

module _ (c : List ℕ) (at : ℕ) where
  pub number_none : number_at c at 0 ≡ 0
  unfolding number_at
  number_none = refl

  pub number_more : (n : ℕ) → number_at c at (suc n) ≡ number_at c at n * 10 + (get_or c (at + n) 0 - 48)
  unfolding number_at
  number_more n = refl

  pub a_digit_at : (i n : ℕ) → every is_digit c at n ≡ true → i < n → (48 ≤ get_or c (at + i) 0) × (get_or c (at + i) 0 ≤ 57)
  a_digit_at i n e h =
      let b = both (leb 48 (get_or c (at + i) 0)) (leb (get_or c (at + i) 0) 57) (every_at is_digit c at i n e h) in
      (leb-true _ _ b.0, leb-true _ _ b.1)

  -- n digits are below 10^n
  pub number_fits : (n : ℕ) → every is_digit c at n ≡ true → number_at c at n < 10 ^ n
  number_fits zero e = omega (arith, number_none)
  number_fits (suc n) e =
      let d = a_digit_at n (suc n) e (omega arith) in
      let h = number_fits n (every_both is_digit c at n e).0 in
      omega (arith, number_more n, pow-suc 10 n)

  pub number_one : number_at c at 1 ≡ get_or c at 0 - 48
  number_one =
      let o : at + 0 ≡ at = omega arith in
      rw o at (number_more 0) ∙ ap (λ (x : ℕ). x * 10 + (get_or c at 0 - 48)) number_none ∙ omega arith

  -- two digits, with what each byte has above its digit
  pub number_two : every is_digit c at 2 ≡ true
      → (get_or c at 0 ≤ 57) × (get_or c (at + 1) 0 ≤ 57) × (528 ≤ get_or c at 0 * 10 + get_or c (at + 1) 0) × (get_or c at 0 * 10 + get_or c (at + 1) 0 - 528 ≡ number_at c at 2)
  number_two e =
      let o : at + 0 ≡ at = omega arith in
      let a : (48 ≤ get_or c at 0) × (get_or c at 0 ≤ 57) = rw o at (a_digit_at 0 2 e (omega arith)) in
      let b = a_digit_at 1 2 e (omega arith) in
      (a.1, b.1, omega arith, omega (arith, number_more 1, number_one))

-- eight digits, their bytes as a word
same_word : (a b c d e f g h a' b' c' d' e' f' g' h' : ℕ) → a ≡ a' → b ≡ b' → c ≡ c' → d ≡ d' → e ≡ e' → f ≡ f' → g ≡ g' → h ≡ h'
    → word_of a b c d e f g h ≡ word_of a' b' c' d' e' f' g' h'
same_word a b c d e f g h a' b' c' d' e' f' g' h' i j k l m n o p = cc

module _ (c : List ℕ) (at : ℕ) (e : every is_digit c at 8 ≡ true) where
  digit_of_lem : (i : ℕ) → i < 8 → (get_or c (at + i) 0 ≡ 48 + (get_or c (at + i) 0 - 48)) × (get_or c (at + i) 0 - 48 < 10)
  digit_of_lem i h =
      let d = a_digit_at c at i 8 e h in
      (omega arith, omega arith)

  number_eight : number_at c at 8
      ≡ (((((((get_or c at 0 - 48) * 10 + (get_or c (at + 1) 0 - 48)) * 10 + (get_or c (at + 2) 0 - 48)) * 10 + (get_or c (at + 3) 0 - 48)) * 10
      + (get_or c (at + 4) 0 - 48)) * 10 + (get_or c (at + 5) 0 - 48)) * 10 + (get_or c (at + 6) 0 - 48)) * 10 + (get_or c (at + 7) 0 - 48)
  unfolding number_at
  number_eight = ap (λ (x : ℕ). ((((((x * 10 + (get_or c (at + 1) 0 - 48)) * 10 + (get_or c (at + 2) 0 - 48)) * 10 + (get_or c (at + 3) 0 - 48)) * 10
      + (get_or c (at + 4) 0 - 48)) * 10 + (get_or c (at + 5) 0 - 48)) * 10 + (get_or c (at + 6) 0 - 48)) * 10 + (get_or c (at + 7) 0 - 48)) (number_one c at)

  pub eight_read : (word : ℕ)
      → word ≡ word_of (get_or c at 0) (get_or c (at + 1) 0) (get_or c (at + 2) 0) (get_or c (at + 3) 0) (get_or c (at + 4) 0) (get_or c (at + 5) 0) (get_or c (at + 6) 0) (get_or c (at + 7) 0)
      → Joined word (number_at c at 8)
  eight_read word q =
      let o : at + 0 ≡ at = omega arith in
      let d0 : (get_or c at 0 ≡ 48 + (get_or c at 0 - 48)) × (get_or c at 0 - 48 < 10) = rw o at (digit_of_lem 0 (omega arith)) in
      let d1 = digit_of_lem 1 (omega arith) in
      let d2 = digit_of_lem 2 (omega arith) in
      let d3 = digit_of_lem 3 (omega arith) in
      let d4 = digit_of_lem 4 (omega arith) in
      let d5 = digit_of_lem 5 (omega arith) in
      let d6 = digit_of_lem 6 (omega arith) in
      let d7 = digit_of_lem 7 (omega arith) in
      subst (λ (n : ℕ). Joined word n) (sym number_eight)
      (joined _ _ _ _ _ _ _ _ d0.1 d1.1 d2.1 d3.1 d4.1 d5.1 d6.1 d7.1 word
      (q ∙ same_word _ _ _ _ _ _ _ _ _ _ _ _ _ _ _ _ d0.0 d1.0 d2.0 d3.0 d4.0 d5.0 d6.0 d7.0))

-- what is worked from the bytes of eight digits as a word
module _ (c : List ℕ) (at : ℕ) (good : every is_digit c at 8 ≡ true) (bytes : List ℕ) (are : bytes ≡ take 8 (drop at c)) (word : ℕ) (is : word ≡ from_le_bytes w64 bytes) where
  byte_at : (i : ℕ) → i < 8 → get_or bytes i 0 ≡ get_or c (at + i) 0
  byte_at i h = ap (λ (l : List ℕ). get_or l i 0) are ∙ get_or-take 8 (drop at c) i 0 h ∙ get_or-drop at c i 0

  eight_joined : Joined word (number_at c at 8)
  eight_joined =
      let o : at + 0 ≡ at = omega arith in
      let b0 : get_or bytes 0 0 ≡ get_or c at 0 = byte_at 0 (omega arith) ∙ ap (λ (k : ℕ). get_or c k 0) o in
      eight_read c at good word
      (omega (arith, is, b0, byte_at 1 (omega arith), byte_at 2 (omega arith), byte_at 3 (omega arith), byte_at 4 (omega arith), byte_at 5 (omega arith), byte_at 6 (omega arith), byte_at 7 (omega arith)))

  pub eight_least : 3472328296227680304 ≤ word
  eight_least = eight_joined.least

  pub eight_small : ones_in word < 720575940379279360
  eight_small = eight_joined.ones_small

  pub eight_is : (fours_in word * 10000 + fours_in word / 4294967296) % 4294967296 ≡ number_at c at 8
  eight_is = eight_joined.is

-- the digits of two groups
pub number_join : (c : List ℕ) (at m n : ℕ) → number_at c at (m + n) ≡ number_at c at m * 10 ^ n + number_at c (at + m) n
number_join c at m zero = simp unary_clauses (omega (arith, number_none c (at + m)))
number_join c at m (suc n) =
    let q : m + suc n ≡ suc (m + n) = omega arith in
    let i : at + (m + n) ≡ at + m + n = omega arith in
    let k : number_at c at m * 10 ^ suc n ≡ number_at c at m * 10 ^ n * 10 =
    ap (λ (x : ℕ). number_at c at m * x) (pow-suc 10 n) ∙ sym (mul_assoc (number_at c at m) (10 ^ n) 10) in
    rw q (omega (arith, number_join c at m n, rw i at (number_more c at (m + n)), number_more c (at + m) n))

-- two groups, where all are digits: each number below its bound, and the number of both
pub record Groups (c : List ℕ) (at m n : ℕ) : Type 0 where
  pub first : every is_digit c at m ≡ true
  pub then : every is_digit c (at + m) n ≡ true
  pub first_fits : number_at c at m < 10 ^ m
  pub then_fits : number_at c (at + m) n < 10 ^ n
  pub is : number_at c at (m + n) ≡ number_at c at m * 10 ^ n + number_at c (at + m) n

pub groups : (c : List ℕ) (at m n : ℕ) → every is_digit c at (m + n) ≡ true → Groups c at m n
groups c at m n e =
    let h = every_parts is_digit c at m n e in
    record { first = h.0; then = h.1; first_fits = number_fits c at m h.0; then_fits = number_fits c (at + m) n h.1; is = number_join c at m n }

-- the last 19 places of a column, as 1, 2, 8 and 8 digits
pub record Nineteen (c : List ℕ) : Type 0 where
  pub first : 48 ≤ get_or c 2 0
  pub first_is : number_at c 2 1 ≡ get_or c 2 0 - 48
  pub high : Groups c 2 1 2
  pub low : Groups c 5 8 8
  pub both : Groups c 2 3 16

pub nineteen : (c : List ℕ) → every is_digit c 2 19 ≡ true → Nineteen c
nineteen c e =
    let g = groups c 2 3 16 e in
    record { first = (a_digit_at c 2 0 19 e (omega arith)).0; first_is = number_one c 2; high = groups c 2 1 2 g.first; low = groups c 5 8 8 g.then; both = g }

-- ---- the ways through a column that is not read byte by byte

module _ (c : List ℕ) (long : length c ≡ 21) where
  -- spaces
  spaces_seen : (n : ℕ) → every is_space c 0 n ≡ true → scan_to c n ≡ Blank
  spaces_seen zero e = refl
  spaces_seen (suc n) e =
      let b = every_both is_space c 0 n e in
      let z : 0 + n ≡ n = omega arith in
      let f : is_space (get_or c n 0) ≡ true = rw z at b.1 in
      space_more c long n (spaces_seen n b.0) (eqb-true _ _ f)

  -- then one digit
  pub digit_seen : every is_space c 0 20 ≡ true → 48 ≤ get_or c 20 0 → get_or c 20 0 ≤ 57 → Some (number false (get_or c 20 0 - 48)) ≡ scan c
  digit_seen e a b =
      whole c long 21 false _ (first_digit c long 20 (spaces_seen 20 e) a b) refl

  -- or digits, the first of them no 0
  digits_seen : (at n : ℕ) → scan_to c at ≡ Blank → (get_or c at 0 ≡ 48 → ⊥) → at + suc n ≤ 21 → every is_digit c at (suc n) ≡ true
      → number_at c at (suc n) < limit → (scan_to c (at + suc n) ≡ Number false (number_at c at (suc n))) × (0 < number_at c at (suc n))
  digits_seen at zero e z h d f =
      let o : at + 0 ≡ at = omega arith in
      let g : (48 ≤ get_or c at 0) × (get_or c at 0 ≤ 57) = rw o at (a_digit_at c at 0 1 d (omega arith)) in
      let i = first_digit c long at e g.0 g.1 in
      rw (add-one, number_one c at) (i, omega (arith, z))
  digits_seen at (suc n) e z h d f =
      let b = every_both is_digit c at (suc n) d in
      let v = number_more c at (suc n) in
      let i = digits_seen at n e z (omega arith) b.0 (omega arith) in
      let g = a_digit_at c at (suc n) (suc (suc n)) d (omega arith) in
      let o : at + suc (suc n) ≡ suc (at + suc n) = omega arith in
      let y : number_at c at (suc n) ≡ 0 → ⊥ = λ w. omega (arith, i.1) in
      rw (o, v) (next_digit c long (at + suc n) false (number_at c at (suc n)) i.0 y (omega arith) g.0 g.1 (omega arith), omega (arith, i.1))

  -- 19 digits after two spaces
  pub long_seen : get_or c 0 0 ≡ 32 → get_or c 1 0 ≡ 32 → (get_or c 2 0 ≡ 48 → ⊥) → every is_digit c 2 19 ≡ true → Some (number false (number_at c 2 19)) ≡ scan c
  long_seen a b z d =
      let s : scan_to c 2 ≡ Blank = space_more c long 1 (space_more c long 0 refl a) b in
      let f : number_at c 2 19 < limit = omega (arith, number_fits c 2 19 d) in
      whole c long 21 false (number_at c 2 19) (digits_seen 2 18 s z (omega arith) d f).0 refl

  -- 20 digits after a space, the first of them a 1
  module _ (a : get_or c 0 0 ≡ 32) (b : get_or c 1 0 ≡ 49) (d : every is_digit c 2 19 ≡ true) where
    all_digits : every is_digit c 1 20 ≡ true
    all_digits =
        let o : is_digit (get_or c 1 0) ≡ true = rw b refl in
        every_front is_digit c 1 19 o d

    number_is : number_at c 1 20 ≡ 10000000000000000000 + number_at c 2 19
    number_is = omega (arith, number_join c 1 1 19, number_one c 1, b)

    spaced : scan_to c 1 ≡ Blank
    spaced = space_more c long 0 refl a

    no_zero : get_or c 1 0 ≡ 48 → ⊥
    no_zero e = omega (arith, b)

    pub longer_seen : number_at c 2 19 ≤ 8446744073709551615 → Some (number false (10000000000000000000 + number_at c 2 19)) ≡ scan c
    longer_seen h =
        let f : number_at c 1 20 < limit = omega (arith, number_is) in
        ap (λ (x : ℕ). Some (number false x)) (sym number_is)
        ∙ whole c long 21 false (number_at c 1 20) (digits_seen 1 19 spaced no_zero (omega arith) all_digits f).0 refl

    pub too_long : 8446744073709551615 < number_at c 2 19 → None ≡ scan c
    too_long h =
        let e = (every_both is_digit c 1 19 all_digits).0 in
        let f : number_at c 1 19 < limit = omega (arith, number_fits c 1 19 e) in
        let i = digits_seen 1 18 spaced no_zero (omega arith) e f in
        let g = a_digit_at c 1 19 20 all_digits (omega arith) in
        let y : number_at c 1 19 ≡ 0 → ⊥ = λ w. omega (arith, i.1) in
        let l : limit ≤ number_at c 1 19 * 10 + (get_or c 20 0 - 48) = omega (arith, number_is, number_more c 1 19) in
        too_large c long 20 false (number_at c 1 19) i.0 y (omega arith) g.0 g.1 l
