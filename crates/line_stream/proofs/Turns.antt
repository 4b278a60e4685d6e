-- A loop over the lines of a chunk: what a turn of it keeps, for any state and any answer to a line. Assumes nothing.
use Prim.Native.Nat.{ℕ, zero, suc, ◌+◌, ◌-◌, ◌*◌, ◌≤◌, ◌<◌}
use mathlib.Core.Path.{◌≡◌, refl, sym, ap, ◌∙◌}
use mathlib.Core.List.{List, [], ◌∷◌, ◌++◌, append_assoc, append-nil}
use mathlib.Core.Bool.{Bool, true, false, cond}
use native.Mathlib.Omega.{arith}
use lib.ListN.{length, get_or, take, drop, length-take, length-drop, take-append-drop}
use lib.Seq.{take_all, drop-drop}
use lib.Dec.{ltb, eqb}
use Rattle.std.specs.Prelude.{Option, Some, None}
use Rattle.std.specs.Option.{unwrap_or}
use Rattle.memchr.specs.Find.{IsFirstByte, is_byte}
use borrow.Author.Tests.{ltb-true, ltb-false, lt-ltb, le-ltb, eqb-true, eqb-false, eq-eqb, ne_eqb}
use Rattle.columns.specs.Column.{Wrote, over}
use Rattle.columns.proofs.Writing.{length_over, wrote_both, wrote_text}
use Rattle.line_stream.specs.Lines.{Answer, Fed, feed, before_newline, cut, Answered, onward, fed_from, LinesAs}
use Rattle.line_stream.proofs.Cutting.{after, feed_empty, feed_newline, feed_byte}

-- ---- the first newline

before_newline_lem : (b : ℕ) (l : List ℕ) → b ≡ 10 → before_newline (b ∷ l) ≡ 0
unfolding before_newline
before_newline_lem b l e = simp (eq-eqb _ _ e)

before_byte : (b : ℕ) (l : List ℕ) → (b ≡ 10 → ⊥) → before_newline (b ∷ l) ≡ suc (before_newline l)
unfolding before_newline
before_byte b l e = simp (ne_eqb _ _ e)

-- n bytes that are none, and then one or the end
newline_after : (l : List ℕ) (n : ℕ) → n ≤ length l → ((k : ℕ) → k < n → get_or l k 0 ≡ 10 → ⊥) → (n < length l → get_or l n 0 ≡ 10) → before_newline l ≡ n
unfolding before_newline
newline_after [] n h none here = omega arith
newline_after (b ∷ l) zero h none here = before_newline_lem b l (here (omega arith))
newline_after (b ∷ l) (suc n) h none here =
    before_byte b l (none 0 (omega arith))
    ∙ ap suc (newline_after l n (omega arith) (λ k i. none (suc k) (omega arith)) (λ i. here (omega arith)))

-- what a search of it finds
pub newline_found : (l : List ℕ) (found : Option ℕ) → IsFirstByte (is_byte 10) l found → unwrap_or found (length l) ≡ before_newline l
newline_found l None nowhere = sym (newline_after l (length l) (omega arith) (λ k h e. nowhere k (omega arith) h (eq-eqb _ _ e)) (λ h. absurd (omega arith)))
newline_found l (Some n) (first, here) =
    sym (newline_after l n (omega (arith, first.high)) (λ k h e. first.before k (omega arith) h (eq-eqb _ _ e)) (λ _. eqb-true _ _ here))

-- and what one finds from a place on
pub newline_from : (l : List ℕ) (from : ℕ) → from ≤ length l → (found : Option ℕ) → IsFirstByte (is_byte 10) (take (length l - from) (drop from l)) found
    → from + unwrap_or found (length (take (length l - from) (drop from l))) ≡ from + before_newline (drop from l)
newline_from l from h found is =
    let all : take (length l - from) (drop from l) ≡ drop from l = take_all (length l - from) (drop from l) (omega (arith, length-drop from l)) in
    ap (λ (n : ℕ). from + n) (newline_found _ found is ∙ ap before_newline all)

pub newline_within : (l : List ℕ) → before_newline l ≤ length l
unfolding before_newline
newline_within [] = omega arith
newline_within (b ∷ l) = by (eqb b 10) (newline_within l)
  where
    by : (t : Bool) → before_newline l ≤ length l → cond t 0 (suc (before_newline l)) ≤ suc (length l)
    by true h = omega arith
    by false h = omega arith

-- ---- bytes up to the first newline

module _ {Q : Type 0} (line_of : Q → List ℕ → Answer Q) where
  -- a line that ends
  pub feed_line : (q : Q) (p l : List ℕ) → before_newline l < length l
      → feed line_of q p l ≡ onward line_of q (p ++ take (before_newline l) l) (drop (suc (before_newline l)) l)
  feed_line q p [] h = absurd (omega arith)
  feed_line q p (b ∷ l) h = by (eqb b 10) refl (feed_line q (p ++ (b ∷ [])) l)
    where
      by : (t : Bool) → eqb b 10 ≡ t
          → (before_newline l < length l
          → feed line_of q (p ++ (b ∷ [])) l ≡ onward line_of q ((p ++ (b ∷ [])) ++ take (before_newline l) l) (drop (suc (before_newline l)) l))
          → feed line_of q p (b ∷ l) ≡ onward line_of q (p ++ take (before_newline (b ∷ l)) (b ∷ l)) (drop (suc (before_newline (b ∷ l))) (b ∷ l))
      by true e f =
          let n : b ≡ 10 = eqb-true _ _ e in
          feed_newline line_of q p b l n
          ∙ ap (λ (x : List ℕ). onward line_of q x l) (sym (append-nil p))
          ∙ ap (λ (k : ℕ). onward line_of q (p ++ take k (b ∷ l)) (drop (suc k) (b ∷ l))) (sym (before_newline_lem b l n))
      by false e f =
          let n : b ≡ 10 → ⊥ = eqb-false _ _ e in
          let k : ℕ = before_newline l in
          let d = before_byte b l n in
          feed_byte line_of q p b l n
          ∙ f (omega (arith, d))
          ∙ ap (λ (x : List ℕ). onward line_of q x (drop (suc k) l)) (append_assoc p (b ∷ []) (take k l))
          ∙ ap (λ (j : ℕ). onward line_of q (p ++ take j (b ∷ l)) (drop (suc j) (b ∷ l))) (sym d)

  -- and one that does not
  pub feed_part : (q : Q) (p l : List ℕ) → before_newline l ≡ length l → feed line_of q p l ≡ record { next = q; part = p ++ l; said = [] }
  feed_part q p [] h = feed_empty line_of q p ∙ ap (λ (x : List ℕ). record { next = q; part = x; said = [] }) (sym (append-nil p))
  feed_part q p (b ∷ l) h = by (eqb b 10) refl (feed_part q (p ++ (b ∷ [])) l)
    where
      by : (t : Bool) → eqb b 10 ≡ t
          → (before_newline l ≡ length l → feed line_of q (p ++ (b ∷ [])) l ≡ record { next = q; part = (p ++ (b ∷ [])) ++ l; said = [] })
          → feed line_of q p (b ∷ l) ≡ record { next = q; part = p ++ (b ∷ l); said = [] }
      by true e f = let d = before_newline_lem b l (eqb-true _ _ e) in absurd (omega (arith, d))
      by false e f =
          let n : b ≡ 10 → ⊥ = eqb-false _ _ e in
          feed_byte line_of q p b l n
          ∙ f (omega (arith, before_byte b l n))
          ∙ ap (λ (x : List ℕ). record { next = q; part = x; said = [] }) (append_assoc p (b ∷ []) l)

-- ---- the loop over the lines of a text

pub nothing_over : (out : List ℕ) (at : ℕ) → out ≡ over out at []
nothing_over out at =
    let e : at ≡ at + 0 = omega arith in
    sym (take-append-drop at out)
    ∙ ap (λ (n : ℕ). take at out ++ drop n out) e
    ∙ ap (λ (x : List ℕ). x ++ drop (at + 0) out) (sym (append-nil (take at out)))

module _ {Q : Type 0} (line_of : Q → List ℕ → Answer Q) where
  -- lines up to the first newline from a place on
  pub from_newline : (text : List ℕ) (q : Q) (i j : ℕ) → i ≤ length text → j ≡ i + before_newline (drop i text) → feed line_of q [] (drop i text) ≡ fed_from line_of text q i j
  unfolding fed_from
  from_newline text q i j h found = by (ltb j (length text)) refl
    where
      by : (t : Bool) → ltb j (length text) ≡ t → feed line_of q [] (drop i text)
          ≡ cond t (onward line_of q (take (j - i) (drop i text)) (drop (j + 1) text)) (record { next = q; part = drop i text; said = [] })
      by true e =
          let k : ℕ = before_newline (drop i text) in
          let m : k ≡ j - i = omega (arith, found) in
          let s : i + suc k ≡ j + 1 = omega (arith, found) in
          feed_line line_of q [] (drop i text) (omega (arith, ltb-true j (length text) e, length-drop i text, found))
          ∙ ap (λ (x : List ℕ). onward line_of q (take k (drop i text)) x) (drop-drop (suc k) i text ∙ ap (λ (n : ℕ). drop n text) s)
          ∙ ap (λ (n : ℕ). onward line_of q (take n (drop i text)) (drop (j + 1) text)) m
      by false e =
          feed_part line_of q [] (drop i text) (omega (arith, ltb-false j (length text) e, length-drop i text, newline_within (drop i text), found))

  pub from_line : (text : List ℕ) (q : Q) (i j : ℕ) → j < length text → fed_from line_of text q i j ≡ onward line_of q (take (j - i) (drop i text)) (drop (j + 1) text)
  unfolding fed_from
  from_line text q i j h = rw (lt-ltb _ _ h)

  from_none : (text : List ℕ) (q : Q) (i j : ℕ) → length text ≤ j → fed_from line_of text q i j ≡ record { next = q; part = drop i text; said = [] }
  unfolding fed_from
  from_none text q i j h = rw (le-ltb _ _ h)

module _ {Q : Type 0} (line_of : Q → List ℕ → Answer Q) (room : (q : Q) (l : List ℕ) → length (line_of q l).said ≤ 22 * (length l + 1)) where
  -- what holds at each turn, at a line from i to j: what is left to do gives what the whole text gives, and 22 bytes of room are used at most for each
  -- byte passed
  pub record Held (text out₀ : List ℕ) (whole : Fed Q) (at : ℕ) (out : List ℕ) (q : Q) (sent i j : ℕ) : Type 0 where
    pub in_line : i ≤ j
    pub in_text : i ≤ length text
    pub said : List ℕ
    pub wrote : Wrote out₀ at said (length said) out sent
    pub fits : sent ≤ at + 22 * i
    pub led : whole ≡ after line_of said (fed_from line_of text q i j)

  pub start : (text out : List ℕ) (q : Q) (at j : ℕ) → Held text out (fed_from line_of text q 0 j) at out q at 0 j
  start text out q at j = record {
    in_line = omega arith;
    in_text = omega arith;
    said = [];
    wrote = record { bytes = nothing_over out at; long = refl; place = omega arith };
    fits = omega arith;
    led = refl;
  }

  module _ (text out₀ : List ℕ) (whole : Fed Q) (at : ℕ) (out : List ℕ) (q : Q) (sent i j : ℕ) (h : Held text out₀ whole at out q sent i j)
      (fits : at + 22 * length text ≤ length out₀) where
    pub out_long : length out ≡ length out₀
    out_long = ap length h.wrote.bytes ∙ length_over out₀ at h.said (omega (arith, h.wrote.place, h.fits, h.in_text))

    -- a line ends at the place j
    module _ (ends : j < length text) where
      -- there is room for the answer
      pub answer_fits : sent + 22 * (length (take (j - i) (drop i text)) + 1) ≤ length out
      answer_fits = omega (arith, length-take (j - i) (drop i text), h.fits, out_long, h.in_line)

      pub turn : (q' : Q) (out' : List ℕ) (sent' j' : ℕ) → Answered (line_of q (take (j - i) (drop i text))) out sent q' out' sent'
          → j' ≡ j + 1 + before_newline (drop (j + 1) text) → Held text out₀ whole at out' q' sent' (j + 1) j'
      turn q' out' sent' j' a found =
          let line : List ℕ = take (j - i) (drop i text) in
          let d : Answer Q = line_of q line in
          record {
            in_line = omega arith;
            in_text = omega arith;
            said = h.said ++ d.said;
            wrote =
                wrote_text _ _ _ refl
                (wrote_both out₀ out out' at sent sent' h.said d.said (length h.said) (length d.said)
                (omega (arith, h.wrote.place, h.fits, h.in_text)) h.wrote a.text);
            fits = omega (arith, a.text.place, room q line, length-take (j - i) (drop i text), h.fits, h.in_line);
            led =
                h.led
                ∙ ap (λ (f : Fed Q). after line_of h.said f) (from_line line_of text q i j ends)
                ∙ again h.said d.said (feed line_of d.next [] (drop (j + 1) text))
                ∙ sym (ap (λ (x : Q). after line_of (h.said ++ d.said) (feed line_of x [] (drop (j + 1) text))) a.state)
                ∙ ap (λ (f : Fed Q). after line_of (h.said ++ d.said) f) (from_newline line_of text q' (j + 1) j' (omega arith) found);
          }
        where
          again : (x y : List ℕ) (f : Fed Q) → after line_of x (after line_of y f) ≡ after line_of (x ++ y) f
          again x y f = ap (λ (z : List ℕ). record { next = f.next; part = f.part; said = z }) (sym (append_assoc x y f.said))

    -- none does
    pub end : (kept : Q → List ℕ → List ℕ) → ((p : List ℕ) → cut p ≡ kept q p) → length text ≤ j → LinesAs kept whole q (drop i text) out₀ at out sent
    end kept live none =
        let e : whole ≡ record { next = q; part = drop i text; said = h.said } =
        h.led ∙ ap (λ (f : Fed Q). after line_of h.said f) (from_none line_of text q i j none)
        ∙ ap (λ (x : List ℕ). record { next = q; part = drop i text; said = x }) (append-nil h.said) in
        record {
          state = sym (ap (λ (f : Fed Q). f.next) e);
          part = live (drop i text) ∙ sym (ap (λ (f : Fed Q). kept f.next f.part) e);
          text = wrote_text _ _ _ (sym (ap (λ (f : Fed Q). f.said) e)) h.wrote;
        }
