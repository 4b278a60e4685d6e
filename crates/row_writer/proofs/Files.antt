-- Rows written one after another, fed to the reader of their kind: each line ends where its row does, and is answered as that row. Assumes nothing.
use Prim.Native.Nat.{ℕ}
use mathlib.Core.Path.{◌≡◌, refl, sym, ap, ◌∙◌}
use mathlib.Core.List.{List, [], ◌∷◌, ◌++◌, append_assoc, append-nil}
use mathlib.Core.Bool.{Bool, true, false, not}
use lib.Dec.{eqb}
use borrow.Author.Tests.{eqb-false}
use Rattle.columns.specs.Forms.{line_of}
use Rattle.columns.specs.Line.{newline, end_of_line, words_line}
use Rattle.columns.proofs.Inverse.{both}
use Rattle.columns.proofs.Plain.{plain, plain_line}
use Rattle.line_stream.specs.Lines.{Answer, Fed, feed}
use Rattle.line_stream.specs.RowKind.{RowKind, RowLine, Row, read_answered, line_answered}
use Rattle.line_stream.proofs.Cutting.{after, feed_empty, feed_newline, feed_byte}
use Rattle.row_writer.specs.Writing.{rows_text, rows_answered, AllReadBack}

not_newline : (b : ℕ) → not (eqb b newline) ≡ true → b ≡ newline → ⊥
not_newline b h = eqb-false b newline (not_true (eqb b newline) h)
  where
    not_true : (t : Bool) → not t ≡ true → t ≡ false
    not_true true e = sym e
    not_true false e = refl

-- bytes without a newline are a part of the line
feed_plain : {Q : Type 0} (answer : Q → List ℕ → Answer Q) (q : Q) (p l rest : List ℕ) → plain l ≡ true → feed answer q p (l ++ rest) ≡ feed answer q (p ++ l) rest
feed_plain answer q p [] rest h = ap (λ (x : List ℕ). feed answer q x rest) (sym (append-nil p))
feed_plain answer q p (b ∷ l) rest h =
    let s = both (not (eqb b newline)) (plain l) h in
    feed_byte answer q p b (l ++ rest) (not_newline b s.0)
    ∙ feed_plain answer q (p ++ (b ∷ [])) l rest s.1
    ∙ ap (λ (x : List ℕ). feed answer q x rest) (append_assoc p (b ∷ []) l)

module _ {S R C : Type 0} (kind : RowKind S R C) where
  pub rows_fed : (state : S) (rows : List R) → AllReadBack kind rows
      → feed (line_answered kind) state [] (rows_text kind rows)
      ≡ record { next = (rows_answered kind state rows).next; part = []; said = (rows_answered kind state rows).said }
  unfolding words_line line_answered
  rows_fed state [] h = feed_empty (line_answered kind) state []
  rows_fed state (row ∷ rows) h =
      let line : List ℕ = line_of kind.row_forms (kind.row_words row) in
      let a : Answer S = read_answered kind state (Row row) in
      let e : line_answered kind state line ≡ a = ap (λ (x : RowLine R). read_answered kind state x) h.0 in
      ap (λ (x : List ℕ). feed (line_answered kind) state [] x) (append_assoc line end_of_line (rows_text kind rows))
      ∙ feed_plain (line_answered kind) state [] line (end_of_line ++ rows_text kind rows) (plain_line kind.row_forms (kind.row_words row))
      ∙ feed_newline (line_answered kind) state line newline (rows_text kind rows) refl
      ∙ ap (λ (x : Answer S). after (line_answered kind) x.said (feed (line_answered kind) x.next [] (rows_text kind rows))) e
      ∙ ap (λ (x : Fed S). after (line_answered kind) a.said x) (rows_fed a.next rows h.1)
