-- A chunk fed: the line that its first newline ends, from the bytes kept of it; the lines after that; and the part that is left. For any state. Assumes nothing.
use Prim.Native.Nat.{ℕ, suc, ◌+◌, ◌-◌, ◌≤◌, ◌<◌}
use mathlib.Core.Path.{◌≡◌, refl, sym, ap, ◌∙◌}
use mathlib.Core.List.{List, [], ◌++◌}
use native.Mathlib.Omega.{arith}
use lib.ListN.{length, take, drop, length-drop}
use lib.Seq.{take_all, drop-drop}
use Rattle.columns.specs.Column.{Wrote, over}
use Rattle.columns.proofs.Writing.{take_over, drop_over, length_over, wrote_both}
use Rattle.line_stream.specs.Lines.{Answer, Fed, feed, cut, before_newline, Kept, Answered, onward, fed_from, LinesAs, FedAs}
use Rattle.line_stream.proofs.Turns.{newline_within, feed_line, feed_part, from_newline}

-- a text written at the start of an output
module _ (before t : List ℕ) (n : ℕ) (out : List ℕ) (sent : ℕ) (w : Wrote before 0 t n out sent) (fits : sent ≤ length before) where
  is : sent ≡ 0 + length t
  is = omega (arith, w.place, w.long)

  pub text_said : take sent out ≡ t
  text_said = ap (λ (x : List ℕ). take sent x) w.bytes ∙ ap (λ (m : ℕ). take m (over before 0 t)) is ∙ take_over before 0 t (omega (arith, is))

  pub text_fits : sent ≤ length out
  text_fits = omega (arith, fits, is, ap length w.bytes, length_over before 0 t (omega (arith, is)))

  pub text_rest : drop sent out ≡ drop sent before
  text_rest =
      ap (λ (x : List ℕ). drop sent x) w.bytes
      ∙ ap (λ (m : ℕ). drop m (over before 0 t)) is
      ∙ drop_over before 0 t (omega (arith, is))
      ∙ sym (ap (λ (m : ℕ). drop m before) is)

module _ (chunk : List ℕ) (j : ℕ) (found : j ≡ 0 + before_newline (drop 0 chunk)) where
  pub found_within : j ≤ length chunk
  found_within = omega (arith, found, newline_within chunk)

module _ {Q : Type 0} (line_of : Q → List ℕ → Answer Q) (keeps : Q → List ℕ → List ℕ) (line_cut : (q : Q) (p : List ℕ) → line_of q (cut p) ≡ line_of q p) where
  module _ (q : Q) (chunk line : List ℕ) (had j : ℕ) (found : j ≡ 0 + before_newline (drop 0 chunk)) (line₁ : List ℕ) (len : ℕ) (kept : Kept line had (take j chunk) line₁ len) where
    -- no line ends in the chunk
    pub fed_part : ((p : List ℕ) → cut p ≡ keeps q p) → length chunk ≤ j → (out : List ℕ) → FedAs keeps (feed line_of q (take had line) chunk) q line₁ len out out 0
    fed_part live none out =
        let e : feed line_of q (take had line) chunk ≡ record { next = q; part = take had line ++ chunk; said = [] } =
        feed_part line_of q (take had line) chunk (omega (arith, found, newline_within chunk)) in
        record {
          state = sym (ap (λ (f : Fed Q). f.next) e);
          part = kept.bytes ∙ ap (λ (x : List ℕ). cut (take had line ++ x)) (take_all j chunk none) ∙ live (take had line ++ chunk) ∙ sym (ap (λ (f : Fed Q). keeps f.next f.part) e);
          part_fits = kept.fits;
          said = sym (ap (λ (f : Fed Q). f.said) e);
          said_fits = omega arith;
          rest = refl;
        }

    -- a line ends in it
    pub fed_on : j < length chunk → (out : List ℕ) (q₁ : Q) (out₁ : List ℕ) (at₁ : ℕ) → Answered (line_of q (take len line₁)) out 0 q₁ out₁ at₁
        → (e : ℕ) → e ≡ j + 1 + before_newline (drop (j + 1) chunk) → (q₂ : Q) (rest : ℕ) (out₂ : List ℕ) (at₂ : ℕ) → at₂ ≤ length out
        → LinesAs keeps (fed_from line_of (take (length chunk - (j + 1)) (drop (j + 1) chunk)) q₁ 0 (e - (j + 1))) q₂ (drop rest (take (length chunk - (j + 1)) (drop (j + 1) chunk))) out₁ at₁ out₂ at₂
        → (line₂ : List ℕ) (len₂ : ℕ) → Kept line₁ 0 (take (length chunk - (j + 1 + rest)) (drop (j + 1 + rest) chunk)) line₂ len₂
        → FedAs keeps (feed line_of q (take had line) chunk) q₂ line₂ len₂ out out₂ at₂
    fed_on ends out q₁ out₁ at₁ a e next q₂ rest out₂ at₂ fits p line₂ len₂ k =
        let after : List ℕ = drop (j + 1) chunk in
        let text : List ℕ = take (length chunk - (j + 1)) after in
        let t : text ≡ after = take_all (length chunk - (j + 1)) after (omega (arith, length-drop (j + 1) chunk)) in
        let l : List ℕ = take had line ++ take j chunk in
        let d : Answer Q = line_of q l in
        let g : Fed Q = feed line_of d.next [] after in
        let same : line_of q (take len line₁) ≡ d = ap (λ (x : List ℕ). line_of q x) kept.bytes ∙ line_cut q l in
        let b : before_newline chunk ≡ j = omega (arith, found) in
        let s : suc j ≡ j + 1 = omega arith in
        let whole : feed line_of q (take had line) chunk ≡ record { next = g.next; part = g.part; said = d.said ++ g.said } =
        feed_line line_of q (take had line) chunk (omega (arith, found))
        ∙ ap (λ (n : ℕ). onward line_of q (take had line ++ take n chunk) (drop (suc n) chunk)) b
        ∙ ap (λ (n : ℕ). onward line_of q l (drop n chunk)) s in
        let z : e - (j + 1) ≡ 0 + before_newline (drop 0 text) = omega (arith, next, ap before_newline t) in
        let state₁ : q₁ ≡ d.next = a.state ∙ ap (λ (x : Answer Q). x.next) same in
        let lines : fed_from line_of text q₁ 0 (e - (j + 1)) ≡ g =
        sym (from_newline line_of text q₁ 0 (e - (j + 1)) (omega arith) z)
        ∙ ap (λ (x : List ℕ). feed line_of q₁ [] x) t
        ∙ ap (λ (x : Q). feed line_of x [] after) state₁ in
        let left : take (length chunk - (j + 1 + rest)) (drop (j + 1 + rest) chunk) ≡ drop rest text =
        take_all (length chunk - (j + 1 + rest)) (drop (j + 1 + rest) chunk) (omega (arith, length-drop (j + 1 + rest) chunk))
        ∙ sym (drop-drop rest (j + 1) chunk)
        ∙ sym (ap (λ (x : List ℕ). drop rest x) t) in
        let u : (line_of q (take len line₁)).said ++ (fed_from line_of text q₁ 0 (e - (j + 1))).said ≡ (feed line_of q (take had line) chunk).said =
        ap (λ (x : Answer Q). x.said ++ (fed_from line_of text q₁ 0 (e - (j + 1))).said) same
        ∙ ap (λ (f : Fed Q). d.said ++ f.said) lines
        ∙ sym (ap (λ (f : Fed Q). f.said) whole) in
        let w = wrote_both out out₁ out₂ 0 at₁ at₂ _ _ _ _ (omega (arith, fits, p.text.place, a.text.place)) a.text p.text in
        record {
          state = p.state ∙ ap (λ (f : Fed Q). f.next) lines ∙ sym (ap (λ (f : Fed Q). f.next) whole);
          part = k.bytes ∙ ap (λ (x : List ℕ). cut x) left ∙ p.part ∙ ap (λ (f : Fed Q). keeps f.next f.part) lines ∙ sym (ap (λ (f : Fed Q). keeps f.next f.part) whole);
          part_fits = k.fits;
          said = text_said out _ _ out₂ at₂ w fits ∙ u;
          said_fits = text_fits out _ _ out₂ at₂ w fits;
          rest = text_rest out _ _ out₂ at₂ w fits;
        }
