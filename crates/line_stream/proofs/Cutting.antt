-- However a stream is cut into chunks, what is written is what the whole stream gives. For any state, and any answer to a line that the bytes
-- which are not kept do not change. Assumes nothing.
use Prim.Native.Nat.{ℕ, ◌≤◌, ◌<◌}
use mathlib.Core.Path.{◌≡◌, refl, sym, ap, ◌∙◌}
use mathlib.Core.List.{List, [], ◌∷◌, ◌++◌, append_assoc, append-nil}
use mathlib.Core.Bool.{Bool, true, false, cond}
use native.Mathlib.Omega.{arith}
use lib.ListN.{length, length-take}
use lib.Seq.{take_all, take-append-le}
use lib.Dec.{leb, eqb}
use borrow.Author.Tests.{leb-true, leb-false, eqb-true, eqb-false, eq-eqb, ne_eqb}
use Rattle.line_stream.specs.Lines.{lines_after, rest_after, Answer, Fed, whole, answers, feed, output, cut, chunkwise, written}

-- ---- two pieces of a stream

lines_append : (p a b : List ℕ) → lines_after p (a ++ b) ≡ lines_after p a ++ lines_after (rest_after p a) b
unfolding lines_after rest_after
lines_append p [] b = refl
lines_append p (x ∷ a) b = by (eqb x 10) (lines_append [] a b) (lines_append (p ++ (x ∷ [])) a b)
  where
    by : (t : Bool) → lines_after [] (a ++ b) ≡ lines_after [] a ++ lines_after (rest_after [] a) b
        → lines_after (p ++ (x ∷ [])) (a ++ b) ≡ lines_after (p ++ (x ∷ [])) a ++ lines_after (rest_after (p ++ (x ∷ [])) a) b
        → cond t (p ∷ lines_after [] (a ++ b)) (lines_after (p ++ (x ∷ [])) (a ++ b))
        ≡ cond t (p ∷ lines_after [] a) (lines_after (p ++ (x ∷ [])) a) ++ lines_after (cond t (rest_after [] a) (rest_after (p ++ (x ∷ [])) a)) b
    by true e f = ap (λ (l : List (List ℕ)). p ∷ l) e
    by false e f = f

rest_append : (p a b : List ℕ) → rest_after p (a ++ b) ≡ rest_after (rest_after p a) b
unfolding rest_after
rest_append p [] b = refl
rest_append p (x ∷ a) b = by (eqb x 10) (rest_append [] a b) (rest_append (p ++ (x ∷ [])) a b)
  where
    by : (t : Bool) → rest_after [] (a ++ b) ≡ rest_after (rest_after [] a) b
        → rest_after (p ++ (x ∷ [])) (a ++ b) ≡ rest_after (rest_after (p ++ (x ∷ [])) a) b
        → cond t (rest_after [] (a ++ b)) (rest_after (p ++ (x ∷ [])) (a ++ b)) ≡ rest_after (cond t (rest_after [] a) (rest_after (p ++ (x ∷ [])) a)) b
    by true e f = e
    by false e f = f

module _ {Q : Type 0} (line_of : Q → List ℕ → Answer Q) where
  -- what was written before stays in front
  abbrev pub after : List ℕ → Fed Q → Fed Q
  after o f = record { next = f.next; part = f.part; said = o ++ f.said }

  answers_append : (q : Q) (xs ys : List (List ℕ)) → answers line_of q (xs ++ ys)
      ≡ record {
        next = (answers line_of (answers line_of q xs).next ys).next;
        said = (answers line_of q xs).said ++ (answers line_of (answers line_of q xs).next ys).said;
      }
  unfolding answers
  answers_append q [] ys = refl
  answers_append q (x ∷ xs) ys =
      let a = line_of q x in
      let b = answers line_of a.next xs in
      let c = answers line_of b.next ys in
      ap (λ (r : Answer Q). record { next = r.next; said = a.said ++ r.said }) (answers_append a.next xs ys)
      ∙ ap (λ (l : List ℕ). record { next = c.next; said = l }) (sym (append_assoc a.said b.said c.said))

  pub feed_append : (q : Q) (p a b : List ℕ) → feed line_of q p (a ++ b)
      ≡ after (feed line_of q p a).said (feed line_of (feed line_of q p a).next (feed line_of q p a).part b)
  unfolding feed
  feed_append q p a b =
      let f = answers line_of q (lines_after p a) in
      let g = answers line_of f.next (lines_after (rest_after p a) b) in
      ap (λ (r : Answer Q). record { next = r.next; part = rest_after p (a ++ b); said = r.said })
      (ap (λ (l : List (List ℕ)). answers line_of q l) (lines_append p a b) ∙ answers_append q (lines_after p a) (lines_after (rest_after p a) b))
      ∙ ap (λ (l : List ℕ). record { next = g.next; part = l; said = f.said ++ g.said }) (rest_append p a b)

  -- ---- no byte, or a byte at the front

  pub feed_empty : (q : Q) (p : List ℕ) → feed line_of q p [] ≡ record { next = q; part = p; said = [] }
  unfolding feed lines_after rest_after answers
  feed_empty q p = refl

  pub feed_newline : (q : Q) (p : List ℕ) (b : ℕ) (l : List ℕ) → b ≡ 10 → feed line_of q p (b ∷ l) ≡ after (line_of q p).said (feed line_of (line_of q p).next [] l)
  unfolding feed lines_after rest_after answers
  feed_newline q p b l e = simp (eq-eqb _ _ e)

  pub feed_byte : (q : Q) (p : List ℕ) (b : ℕ) (l : List ℕ) → (b ≡ 10 → ⊥) → feed line_of q p (b ∷ l) ≡ feed line_of q (p ++ (b ∷ [])) l
  unfolding feed lines_after rest_after
  feed_byte q p b l e = simp (ne_eqb _ _ e)

-- ---- bytes of a line past the 256th

-- a number is at most another or above it
pub at_most_or_above : {C : Type 0} (n m : ℕ) → (n ≤ m → C) → (m < n → C) → C
at_most_or_above {C} n m f g = by (leb n m) refl
  where
    by : (t : Bool) → leb n m ≡ t → C
    by true e = f (leb-true _ _ e)
    by false e = g (leb-false _ _ e)

pub cut_append : (p s : List ℕ) → cut (cut p ++ s) ≡ cut (p ++ s)
cut_append p s =
    at_most_or_above (length p) 256
    (λ h. ap (λ (x : List ℕ). cut (x ++ s)) (take_all 256 p h))
    (λ h.
    let e : length (cut p) ≡ 256 = length-take 256 p ∙ omega arith in
    take-append-le 256 (cut p) s (omega arith) ∙ take_all 256 (cut p) (omega arith) ∙ sym (take-append-le 256 p s (omega arith)))

module _ {Q : Type 0} (line_of : Q → List ℕ → Answer Q) (kept : Q → List ℕ → List ℕ)
    (Kept-line : (q : Q) (p : List ℕ) → line_of q (kept q p) ≡ line_of q p) (kept_append : (q : Q) (p s : List ℕ) → kept q (kept q p ++ s) ≡ kept q (p ++ s)) where
  -- with what is kept of the part of a line
  abbrev pub trim : Fed Q → Fed Q
  trim f = record { next = f.next; part = kept f.next f.part; said = f.said }

  kept_again : (q : Q) (p : List ℕ) → kept q (kept q p) ≡ kept q p
  kept_again q p =
      ap (λ (x : List ℕ). kept q x) (sym (append-nil (kept q p))) ∙ kept_append q p [] ∙ ap (λ (x : List ℕ). kept q x) (append-nil p)

  feed_kept : (q : Q) (p l : List ℕ) → trim (feed line_of q (kept q p) l) ≡ trim (feed line_of q p l)
  feed_kept q p [] =
      ap trim (feed_empty line_of q (kept q p))
      ∙ ap (λ (x : List ℕ). record { next = q; part = x; said = [] }) (kept_again q p)
      ∙ ap trim (sym (feed_empty line_of q p))
  feed_kept q p (b ∷ l) = by (eqb b 10) refl (feed_kept q (kept q p ++ (b ∷ [])) l) (feed_kept q (p ++ (b ∷ [])) l)
    where
      by : (t : Bool) → eqb b 10 ≡ t
          → trim (feed line_of q (kept q (kept q p ++ (b ∷ []))) l) ≡ trim (feed line_of q (kept q p ++ (b ∷ [])) l)
          → trim (feed line_of q (kept q (p ++ (b ∷ []))) l) ≡ trim (feed line_of q (p ++ (b ∷ [])) l)
          → trim (feed line_of q (kept q p) (b ∷ l)) ≡ trim (feed line_of q p (b ∷ l))
      by true e f g =
          let n : b ≡ 10 = eqb-true _ _ e in
          ap trim (feed_newline line_of q (kept q p) b l n)
          ∙ ap (λ (a : Answer Q). trim (after line_of a.said (feed line_of a.next [] l))) (Kept-line q p)
          ∙ ap trim (sym (feed_newline line_of q p b l n))
      by false e f g =
          let n : b ≡ 10 → ⊥ = eqb-false _ _ e in
          ap trim (feed_byte line_of q (kept q p) b l n)
          ∙ sym f
          ∙ ap (λ (x : List ℕ). trim (feed line_of q x l)) (kept_append q p (b ∷ []))
          ∙ g
          ∙ ap trim (sym (feed_byte line_of q p b l n))

  -- ---- any cutting into chunks

  chunkwise_empty : (q : Q) (p : List ℕ) → chunkwise line_of kept q p [] ≡ record { next = q; part = p; said = [] }
  unfolding chunkwise
  chunkwise_empty q p = refl

  abbrev go_on : List (List ℕ) → Fed Q → Fed Q
  go_on rest f = after line_of f.said (chunkwise line_of kept f.next f.part rest)

  chunkwise_more : (q : Q) (p c : List ℕ) (rest : List (List ℕ)) → chunkwise line_of kept q p (c ∷ rest) ≡ go_on rest (trim (feed line_of q p c))
  unfolding chunkwise
  chunkwise_more q p c rest = refl

  pub any_cutting : (q : Q) (p : List ℕ) (chunks : List (List ℕ)) → chunkwise line_of kept q (kept q p) chunks ≡ trim (feed line_of q p (whole chunks))
  any_cutting q p [] = chunkwise_empty q (kept q p) ∙ ap trim (sym (feed_empty line_of q p))
  any_cutting q p (c ∷ rest) =
      let f = feed line_of q p c in
      chunkwise_more q (kept q p) c rest
      ∙ ap (λ (g : Fed Q). go_on rest g) (feed_kept q p c)
      ∙ ap (λ (g : Fed Q). after line_of f.said g) (any_cutting f.next f.part rest)
      ∙ ap trim (sym (feed_append line_of q p c (whole rest)))

  -- what a program writes is what the whole stream gives
  pub written_is : (ending : Q → List ℕ → List ℕ) → ((q : Q) (p : List ℕ) → ending q (kept q p) ≡ ending q p)
      → (q : Q) → kept q [] ≡ [] → (chunks : List (List ℕ)) → written line_of kept ending q chunks ≡ output line_of ending q (whole chunks)
  unfolding written output
  written_is ending ending_kept q none chunks =
      let f = feed line_of q [] (whole chunks) in
      ap (λ (g : Fed Q). g.said ++ ending g.next g.part) (ap (λ (p : List ℕ). chunkwise line_of kept q p chunks) (sym none) ∙ any_cutting q [] chunks)
      ∙ ap (λ (l : List ℕ). f.said ++ l) (ending_kept f.next f.part)
