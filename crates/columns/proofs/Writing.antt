-- Texts written into a buffer: digit by digit, and one after another. Assumes nothing.
use Prim.Native.Nat.{ℕ, zero, suc, ◌+◌, ◌-◌, ◌*◌, ◌/◌, ◌%◌, ◌^◌, ◌≤◌, ◌<◌}
use mathlib.Core.Path.{◌≡◌, refl, sym, ap, ap₂, ◌∙◌, subst}
use mathlib.Core.List.{List, [], ◌∷◌, ◌++◌, append_assoc, append-nil}
use mathlib.Core.Bool.{Bool}
use native.Mathlib.Omega.{arith}
use native.Mathlib.Nat.{pow-suc, mul_assoc, mul-pos, one-le-pow}
use native.Mathlib.Numerals.{add-one}
use lib.ListN.{length, take, drop, set, replicate, length-append, length-drop}
use lib.Seq.{set_split, take_at, drop_at, drop-drop, drop-length, append_snoc, length-take-le}
use borrow.Author.Tests.{lt-ltb, le-ltb}
use Rattle.std.specs.Int.{to_le_bytes}
use mir.Syntax.{w64}
use Rattle.columns.specs.Column.{mark, text, digits, column, over, Wrote}
use Rattle.columns.proofs.Scanning.{length_text}

-- ---- a number written from its last digit on

-- the last of k + 1 spaces made another byte
pub set_last : (k x : ℕ) (r : List ℕ) → set (replicate (suc k) 32 ++ r) k x ≡ replicate k 32 ++ (x ∷ r)
set_last zero x r = refl
set_last (suc k) x r = ap (λ (l : List ℕ). 32 ∷ l) (set_last k x r)

text_more : (m w n : ℕ) → 10 ≤ n → text m (suc w) n ≡ text m w (n / 10) ++ ((48 + n % 10) ∷ [])
text_more m w n h = simp (le-ltb _ _ h)

text_one : (m w n : ℕ) → n < 10 → text m (suc (suc w)) n ≡ replicate w 32 ++ (m ∷ (48 + n % 10) ∷ [])
text_one m w n h = simp (lt-ltb _ _ h) (append_snoc (replicate w 32) m ((48 + n % 10) ∷ []))

-- a text that is 21 wide after the mark of a sign is a column
pub column_text : (m : ℕ) (negative : Bool) (n : ℕ) → m ≡ mark negative → text m 21 n ≡ column negative n
unfolding column
column_text m negative n e = ap (λ (x : ℕ). text x 21 n) e

-- a number of one digit
pub column_one : (m : ℕ) (negative : Bool) (n : ℕ) → m ≡ mark negative → n < 10 → replicate 19 32 ++ (m ∷ (48 + n) ∷ []) ≡ column negative n
column_one m negative n e h =
    let r : n % 10 ≡ n = omega arith in
    ap (λ (k : ℕ). replicate 19 32 ++ (m ∷ (48 + k) ∷ [])) (sym r) ∙ sym (text_one m 19 n h) ∙ column_text m negative n e

-- what is written of the text of n when a number is left: the first k places are spaces still, there is room in them for that number and the mark, and
-- its text in them and the bytes after them are the text of n
pub record WrittenFrom (m w n : ℕ) (t : List ℕ) (k left : ℕ) : Type 0 where
  pub two : 2 ≤ k
  pub room : left < 10 ^ (k - 1)
  pub tail : List ℕ
  pub spaces : t ≡ replicate k 32 ++ tail
  pub whole : text m k left ++ tail ≡ text m w n

pub from_start : (m w n : ℕ) (t : List ℕ) → 2 ≤ w → n < 10 ^ (w - 1) → t ≡ replicate w 32 → WrittenFrom m w n t w n
from_start m w n t h r e = record {
  two = h;
  room = r;
  tail = [];
  spaces = e ∙ sym (append-nil (replicate w 32));
  whole = append-nil (text m w n);
}

module _ (m w n : ℕ) (t : List ℕ) where
  pub from_more : (k left : ℕ) → WrittenFrom m w n t k left → (left / 10 ≡ 0 → ⊥) → WrittenFrom m w n (set t (k - 1) (48 + left % 10)) (k - 1) (left / 10)
  from_more zero left f d = absurd (omega (arith, f.two))
  from_more (suc zero) left f d = absurd (omega (arith, f.two))
  from_more (suc (suc zero)) left f d =
      let r : left < 10 ^ 1 = f.room in
      absurd (omega (arith, r, d))
  from_more (suc (suc (suc k))) left f d =
      let e : suc (suc (suc k)) - 1 ≡ suc (suc k) = omega arith in
      let e' : suc (suc k) - 1 ≡ suc k = omega arith in
      rw e record {
        two = omega arith;
        room = rw e' (omega (arith, rw e at f.room, pow-suc 10 (suc k)));
        tail = (48 + left % 10) ∷ f.tail;
        spaces = ap (λ (l : List ℕ). set l (suc (suc k)) (48 + left % 10)) f.spaces ∙ set_last (suc (suc k)) (48 + left % 10) f.tail;
        whole =
            sym (append_snoc (text m (suc (suc k)) (left / 10)) (48 + left % 10) f.tail)
            ∙ ap (λ (l : List ℕ). l ++ f.tail) (sym (text_more m (suc (suc k)) left (omega (arith, d))))
            ∙ f.whole;
      }

  pub from_end : (k left : ℕ) → WrittenFrom m w n t k left → left / 10 ≡ 0 → set (set t (k - 1) (48 + left % 10)) (k - 1 - 1) m ≡ text m w n
  from_end zero left f d = absurd (omega (arith, f.two))
  from_end (suc zero) left f d = absurd (omega (arith, f.two))
  from_end (suc (suc k)) left f d =
      let e : suc (suc k) - 1 ≡ suc k = omega arith in
      let e' : suc k - 1 ≡ k = omega arith in
      rw (e, e')
      (ap (λ (l : List ℕ). set (set l (suc k) (48 + left % 10)) k m) f.spaces
      ∙ ap (λ (l : List ℕ). set l k m) (set_last (suc k) (48 + left % 10) f.tail)
      ∙ set_last k m ((48 + left % 10) ∷ f.tail)
      ∙ sym (append_assoc (replicate k 32) (m ∷ (48 + left % 10) ∷ []) f.tail)
      ∙ ap (λ (l : List ℕ). l ++ f.tail) (sym (text_one m k left (omega (arith, d))))
      ∙ f.whole)

-- ---- one text written after another

module _ (l : List ℕ) (at : ℕ) (a : List ℕ) (h : at + length a ≤ length l) where
  head_length : length (take at l ++ a) ≡ at + length a
  head_length = length-append (take at l) a ∙ ap (λ (k : ℕ). k + length a) (length-take-le at l (omega arith))

  pub take_over : take (at + length a) (over l at a) ≡ take at l ++ a
  take_over = take_at (take at l ++ a) (drop (at + length a) l) (at + length a) head_length

  pub drop_over : drop (at + length a) (over l at a) ≡ drop (at + length a) l
  drop_over = drop_at (take at l ++ a) (drop (at + length a) l) (at + length a) head_length

  pub length_over : length (over l at a) ≡ length l
  length_over =
      length-append (take at l ++ a) (drop (at + length a) l)
      ∙ ap (λ (k : ℕ). k + length (drop (at + length a) l)) head_length
      ∙ ap (λ (k : ℕ). at + length a + k) (length-drop (at + length a) l)
      ∙ omega arith

  over_over : (b : List ℕ) → over (over l at a) (at + length a) b ≡ over l at (a ++ b)
  over_over b =
      let e : at + length (a ++ b) ≡ at + length a + length b = ap (λ (k : ℕ). at + k) (length-append a b) ∙ omega arith in
      ap (λ (t : List ℕ). t ++ b ++ drop (at + length a + length b) (over l at a)) take_over
      ∙ ap (λ (t : List ℕ). take at l ++ a ++ b ++ t)
      (sym (drop-drop (length b) (at + length a) (over l at a)) ∙ ap (λ (t : List ℕ). drop (length b) t) drop_over ∙ drop-drop (length b) (at + length a) l)
      ∙ simp append_assoc (ap (λ (k : ℕ). take at l ++ (a ++ (b ++ drop k l))) (sym e))

-- the byte at a place
pub byte_over : (l : List ℕ) (at x : ℕ) → at < length l → set l at x ≡ over l at (x ∷ [])
byte_over l at x h =
    let e : suc at ≡ at + 1 = omega arith in
    set_split l at x h ∙ ap (λ (k : ℕ). take at l ++ x ∷ drop k l) e ∙ sym (append_snoc (take at l) x (drop (at + 1) l))

-- a text of n bytes, and another where it ends
pub over_both : (l : List ℕ) (at n : ℕ) (a b : List ℕ) → length a ≡ n → at + n ≤ length l → over (over l at a) (at + n) b ≡ over l at (a ++ b)
over_both l at n a b e h = ap (λ (k : ℕ). over (over l at a) (at + k) b) (sym e) ∙ over_over l at a (omega arith) b

-- k bytes put into the places from `at` on, between those before and those after
pub placed : (l before rest after bytes t : List ℕ) (at k : ℕ) → before ≡ take at l → rest ≡ drop at l → after ≡ drop k rest → bytes ≡ t → length t ≡ k
    → Wrote l at t k (before ++ (bytes ++ after)) (at + k)
placed l before rest after bytes t at k first second third e h =
    let n : at + k ≡ at + length t = omega arith in
    let last : after ≡ drop (at + length t) l = third ∙ ap (λ (r : List ℕ). drop k r) second ∙ drop-drop k at l ∙ ap (λ (j : ℕ). drop j l) n in
    record {
      bytes =
          ap (λ (b : List ℕ). before ++ (b ++ after)) e
          ∙ ap₂ (λ (x y : List ℕ). x ++ (t ++ y)) first last
          ∙ sym (append_assoc (take at l) t (drop (at + length t) l));
      long = h;
      place = refl;
    }

-- ---- the bytes of a word

-- its w lowest, the lowest first
abbrev bytes : ℕ → ℕ → List ℕ
bytes zero x = []
bytes (suc w) x = x % 256 ∷ bytes w (x / 256)

bytes_more : (w x y : ℕ) → x < 256 → bytes (suc w) (x + 256 * y) ≡ x ∷ bytes w y
bytes_more w x y h =
    let e : (x + 256 * y) % 256 ≡ x = omega arith in
    let f : (x + 256 * y) / 256 ≡ y = omega arith in
    rw (e, f)

bytes_one : (x : ℕ) → x < 256 → bytes 1 x ≡ x ∷ []
bytes_one x h =
    let e : x % 256 ≡ x = omega arith in
    rw e

bytes_eight : (a b c d e f g h : ℕ) → a < 10 → b < 10 → c < 10 → d < 10 → e < 10 → f < 10 → g < 10 → h < 10
    → bytes 8 (48 + a + 256 * (48 + b + 256 * (48 + c + 256 * (48 + d + 256 * (48 + e + 256 * (48 + f + 256 * (48 + g + 256 * (48 + h))))))))
    ≡ (48 + a) ∷ (48 + b) ∷ (48 + c) ∷ (48 + d) ∷ (48 + e) ∷ (48 + f) ∷ (48 + g) ∷ (48 + h) ∷ []
bytes_eight a b c d e f g h i j k l m n o p =
    rw (
      bytes_more 7 (48 + a) _ (omega arith),
      bytes_more 6 (48 + b) _ (omega arith),
      bytes_more 5 (48 + c) _ (omega arith),
      bytes_more 4 (48 + d) _ (omega arith),
      bytes_more 3 (48 + e) _ (omega arith),
      bytes_more 2 (48 + f) _ (omega arith),
      bytes_more 1 (48 + g) _ (omega arith),
      bytes_one (48 + h) (omega arith),
    )

-- all eight of a word
bytes_of : (x : ℕ) → to_le_bytes w64 x ≡ bytes 8 x
bytes_of x =
    let p2 : x / 256 / 256 ≡ x / 65536 = omega arith in
    let p3 : x / 65536 / 256 ≡ x / 16777216 = omega arith in
    let p4 : x / 16777216 / 256 ≡ x / 4294967296 = omega arith in
    let p5 : x / 4294967296 / 256 ≡ x / 1099511627776 = omega arith in
    let p6 : x / 1099511627776 / 256 ≡ x / 281474976710656 = omega arith in
    let p7 : x / 281474976710656 / 256 ≡ x / 72057594037927936 = omega arith in
    simp (p2, p3, p4, p5, p6, p7) refl

-- ---- a number written in groups of digits

pub length_digits : (w n : ℕ) → length (digits w n) ≡ w
unfolding digits
length_digits zero n = refl
length_digits (suc w) n = length-append (digits w (n / 10)) _ ∙ ap (λ (k : ℕ). k + 1) (length_digits w (n / 10)) ∙ add-one w

digits_none : (n : ℕ) → digits 0 n ≡ []
unfolding digits
digits_none n = refl

digits_more : (w n : ℕ) → digits (suc w) n ≡ digits w (n / 10) ++ ((48 + n % 10) ∷ [])
unfolding digits
digits_more w n = refl

-- eight digits as the bytes of a word
module _ (n : ℕ) (h : n < 100000000) where
  digits_eight : (48 + n / 10000000) ∷ (48 + n / 1000000 % 10) ∷ (48 + n / 100000 % 10) ∷ (48 + n / 10000 % 10) ∷ (48 + n / 1000 % 10) ∷ (48 + n / 100 % 10)
      ∷ (48 + n / 10 % 10) ∷ (48 + n % 10) ∷ [] ≡ digits 8 n
  unfolding digits
  digits_eight =
      let p2 : n / 10 / 10 ≡ n / 100 = omega arith in
      let p3 : n / 100 / 10 ≡ n / 1000 = omega arith in
      let p4 : n / 1000 / 10 ≡ n / 10000 = omega arith in
      let p5 : n / 10000 / 10 ≡ n / 100000 = omega arith in
      let p6 : n / 100000 / 10 ≡ n / 1000000 = omega arith in
      let p7 : n / 1000000 / 10 ≡ n / 10000000 = omega arith in
      let p8 : n / 10000000 % 10 ≡ n / 10000000 = omega arith in
      rw (p2, p3, p4, p5, p6, p7, p8)

  packed_eight : bytes 8 (48 + n / 10000000 + 256 * (48 + n / 1000000 % 10 + 256 * (48 + n / 100000 % 10 + 256 * (48 + n / 10000 % 10
      + 256 * (48 + n / 1000 % 10 + 256 * (48 + n / 100 % 10 + 256 * (48 + n / 10 % 10 + 256 * (48 + n % 10)))))))) ≡ digits 8 n
  packed_eight =
      bytes_eight (n / 10000000) (n / 1000000 % 10) (n / 100000 % 10) (n / 10000 % 10) (n / 1000 % 10) (n / 100 % 10) (n / 10 % 10) (n % 10)
      (omega arith) (omega arith) (omega arith) (omega arith) (omega arith) (omega arith) (omega arith) (omega arith)
      ∙ digits_eight

  pub digits_bytes : (x : ℕ)
      → x ≡ 48 + n / 10000000 + 256 * (48 + n / 1000000 % 10 + 256 * (48 + n / 100000 % 10 + 256 * (48 + n / 10000 % 10
      + 256 * (48 + n / 1000 % 10 + 256 * (48 + n / 100 % 10 + 256 * (48 + n / 10 % 10 + 256 * (48 + n % 10)))))))
      → to_le_bytes w64 x ≡ digits 8 n
  digits_bytes x e = bytes_of x ∙ ap (λ (y : ℕ). bytes 8 y) e ∙ packed_eight

module _ (a b k : ℕ) where
  -- one digit less
  shift : a * 10 ^ suc k + b ≡ a * 10 ^ k * 10 + b
  shift = ap (λ (x : ℕ). a * x + b) (pow-suc 10 k) ∙ ap (λ (x : ℕ). x + b) (sym (mul_assoc a (10 ^ k) 10))

  shift_div : (a * 10 ^ suc k + b) / 10 ≡ a * 10 ^ k + b / 10
  shift_div = rw shift (omega arith)

  shift_mod : (a * 10 ^ suc k + b) % 10 ≡ b % 10
  shift_mod = rw shift (omega arith)

pub text_join : (m w k a b : ℕ) → 0 < a → b < 10 ^ k → text m (w + k) (a * 10 ^ k + b) ≡ text m w a ++ digits k b
text_join m w zero a b p h =
    let e : a * 10 ^ 0 + b ≡ a = omega arith in
    let o : w + 0 ≡ w = omega arith in
    rw (e, o) (sym (ap (λ (l : List ℕ). text m w a ++ l) (digits_none b) ∙ append-nil (text m w a)))
text_join m w (suc k) a b p h =
    let q : w + suc k ≡ suc (w + k) = omega arith in
    let f : b / 10 < 10 ^ k = omega (arith, pow-suc 10 k) in
    let g : 0 < a * 10 ^ k = mul-pos p (one-le-pow k 10 (omega arith)) in
    let t : 10 ≤ a * 10 ^ suc k + b = omega (arith, shift a b k) in
    ap (λ (j : ℕ). text m j (a * 10 ^ suc k + b)) q
    ∙ text_more m (w + k) (a * 10 ^ suc k + b) t
    ∙ ap (λ (j : ℕ). text m (w + k) j ++ ((48 + (a * 10 ^ suc k + b) % 10) ∷ [])) (shift_div a b k)
    ∙ ap (λ (j : ℕ). text m (w + k) (a * 10 ^ k + b / 10) ++ ((48 + j) ∷ [])) (shift_mod a b k)
    ∙ ap (λ (l : List ℕ). l ++ ((48 + b % 10) ∷ [])) (text_join m w k a (b / 10) p f)
    ∙ append_assoc (text m w a) (digits k (b / 10)) ((48 + b % 10) ∷ [])
    ∙ ap (λ (l : List ℕ). text m w a ++ l) (sym (digits_more k b))

-- a column from its first digits and two groups of eight
module _ (m a x y n : ℕ) (p : 0 < a) (q : x < 100000000) (r : y < 100000000) (is : n ≡ (a * 100000000 + x) * 100000000 + y) where
  pub text_groups : text m 21 n ≡ text m 5 a ++ digits 8 x ++ digits 8 y
  text_groups =
      ap (λ (k : ℕ). text m 21 k) is
      ∙ text_join m 13 8 (a * 100000000 + x) y (omega arith) r
      ∙ ap (λ (t : List ℕ). t ++ digits 8 y) (text_join m 5 8 a x p q)

-- bytes put after those of a
put_next : (a x r : List ℕ) (n k : ℕ) → length a ≡ n → take n (a ++ r) ++ (x ++ drop k (drop n (a ++ r))) ≡ a ++ x ++ drop k r
put_next a x r n k e =
    ap₂ (λ (s t : List ℕ). s ++ (x ++ drop k t)) (take_at a r n e) (drop_at a r n e)
    ∙ sym (append_assoc a x (drop k r))

-- and others after them
pub put_both : (a x y r : List ℕ) → length a ≡ 5 → length x ≡ 8 → length r ≡ 16
    → take 13 (take 5 (a ++ r) ++ (x ++ drop 8 (drop 5 (a ++ r)))) ++ (y ++ drop 8 (drop 13 (take 5 (a ++ r) ++ (x ++ drop 8 (drop 5 (a ++ r)))))) ≡ a ++ x ++ y
put_both a x y r e f g =
    let none : drop 8 (drop 8 r) ≡ [] = drop-drop 8 8 r ∙ ap (λ (k : ℕ). drop k r) (sym g) ∙ drop-length r in
    ap (λ (t : List ℕ). take 13 t ++ (y ++ drop 8 (drop 13 t))) (put_next a x r 5 8 e)
    ∙ put_next (a ++ x) y (drop 8 r) 13 8 (length-append a x ∙ omega (arith, e, f))
    ∙ ap (λ (t : List ℕ). a ++ x ++ y ++ t) none
    ∙ append-nil (a ++ x ++ y)

-- so a column of 17 digits or more, put by its parts
pub long_column : (old a x y : List ℕ) (m : ℕ) (negative : Bool) (n : ℕ) → 10000000000000000 ≤ n → length old ≡ 21 → m ≡ mark negative
    → a ≡ text m 5 (n / 10000000000000000) → x ≡ digits 8 (n % 10000000000000000 / 100000000) → y ≡ digits 8 (n % 10000000000000000 % 100000000)
    → take 13 (take 5 (a ++ drop 5 old) ++ (x ++ drop 8 (drop 5 (a ++ drop 5 old))))
    ++ (y ++ drop 8 (drop 13 (take 5 (a ++ drop 5 old) ++ (x ++ drop 8 (drop 5 (a ++ drop 5 old))))))
    ≡ column negative n
long_column old a x y m negative n large whole e f g h =
    put_both a x y (drop 5 old) (ap length f ∙ length_text m 5 (n / 10000000000000000)) (ap length g ∙ length_digits 8 (n % 10000000000000000 / 100000000)) (length-drop 5 old ∙ omega (arith, whole))
    ∙ rw (f, g, h) (sym (text_groups m (n / 10000000000000000) (n % 10000000000000000 / 100000000) (n % 10000000000000000 % 100000000) n (omega arith) (omega arith) (omega arith) (omega arith)))
    ∙ column_text m negative n e

-- two texts, the second where the first ends, are one
pub wrote_both : (l l' l'' : List ℕ) (at at' at'' : ℕ) (a b : List ℕ) (n m : ℕ) → at + n ≤ length l
    → Wrote l at a n l' at' → Wrote l' at' b m l'' at'' → Wrote l at (a ++ b) (n + m) l'' at''
wrote_both l l' l'' at at' at'' a b n m h p q =
    let e : at + length a ≤ length l = omega (arith, p.long) in
    let d : at' ≡ at + length a = omega (arith, p.place, p.long) in
    record {
      bytes = q.bytes ∙ ap (λ (k : ℕ). over l' k b) d ∙ ap (λ (x : List ℕ). over x (at + length a) b) p.bytes ∙ over_over l at a e b;
      long = length-append a b ∙ omega (arith, p.long, q.long);
      place = omega (arith, p.place, q.place);
    }

-- a text written is written under another name for it
pub wrote_as : {l l' : List ℕ} {at at' : ℕ} (a b : List ℕ) (n : ℕ) → a ≡ b → Wrote l at a n l' at' → Wrote l at b n l' at'
wrote_as {l} {l'} {at} {at'} a b n e w = subst (λ (t : List ℕ). Wrote l at t n l' at') e w

-- and with its own length
pub wrote_text : {l l' : List ℕ} {at at' : ℕ} (a b : List ℕ) (n : ℕ) → a ≡ b → Wrote l at a n l' at' → Wrote l at b (length b) l' at'
wrote_text {l} {l'} {at} {at'} a b n e w =
    let k : n ≡ length b = sym w.long ∙ ap length e in
    subst (λ (m : ℕ). Wrote l at b m l' at') k (wrote_as a b n e w)
