-- A row and its line, for any kind: the line of a row is read as that row, and a row of finite numbers is read from no other line. Assumes nothing.
use Prim.Native.Nat.{ℕ}
use mathlib.Core.Path.{◌≡◌, refl, sym, ap, ◌∙◌}
use mathlib.Core.List.{List, ◌++◌}
use mathlib.Core.Bool.{Bool, true, false, cond}
use native.Mathlib.Omega.{arith}
use Rattle.columns.specs.Forms.{well_formed, words_of, line_of, are_words}
use Rattle.columns.specs.Line.{end_of_line, words_line}
use Rattle.columns.proofs.Tables.{read_back, was_written}
use Rattle.columns.proofs.Values.{all_again, floats_finite, words_again}
use Rattle.line_stream.specs.RowKind.{RowKind, Row, Malformed, row_line}
use Rattle.row_writer.specs.Writing.{row_text, ReadsBack}

module _ {S R C : Type 0} (kind : RowKind S R C) where
  -- a row that its words give back: each row that 64 bits hold
  pub record GivenBack (row : R) : Type 0 where
    pub words : are_words kind.row_forms (kind.row_words row) ≡ true
    pub back : kind.row_of (kind.row_words row) ≡ row

  -- the line of a row is read as that row
  pub row_back : (row : R) → GivenBack row → ReadsBack kind row
  unfolding row_line
  row_back row h =
      let b = read_back kind.row_forms (kind.row_words row) h.words in
      rw (b.0, b.1) (ap (λ (x : R). Row x) h.back)

  -- what a kind owes: the words of the row of a line are those of the values that the line's words stand for, and its numbers are finite where the floats
  -- among them are
  pub record Rewritten : Type 0 where
    pub again : (line : List ℕ) → kind.row_words (kind.row_of (words_of kind.row_forms line)) ≡ all_again kind.row_forms (words_of kind.row_forms line)
    pub finite : (line : List ℕ) → kind.finite (kind.row_of (words_of kind.row_forms line)) ≡ floats_finite kind.row_forms (words_of kind.row_forms line)

  -- and a row of finite numbers is read from no line but its own, byte for byte
  pub row_was : Rewritten → (line : List ℕ) (row : R) → row_line kind line ≡ Row row → kind.finite row ≡ true → line ++ end_of_line ≡ row_text kind row
  unfolding row_line words_line
  row_was owed line row e f = by (well_formed kind.row_forms line) refl e
    where
      words : List ℕ
      words = words_of kind.row_forms line

      by : (t : Bool) → well_formed kind.row_forms line ≡ t → cond t (Row (kind.row_of words)) Malformed ≡ Row row
          → line ++ end_of_line ≡ line_of kind.row_forms (kind.row_words row) ++ end_of_line
      by true t d =
          let r : kind.row_of words ≡ row = cc in
          let w = was_written kind.row_forms line t in
          let n : floats_finite kind.row_forms words ≡ true = sym (owed.finite line) ∙ ap (λ (x : R). kind.finite x) r ∙ f in
          let s : words ≡ kind.row_words row =
          sym (words_again kind.row_forms words w.1 n) ∙ sym (owed.again line) ∙ ap (λ (x : R). kind.row_words x) r in
          ap (λ (l : List ℕ). l ++ end_of_line) (w.0 ∙ ap (λ (l : List ℕ). line_of kind.row_forms l) s)
      by false t d = let z : ◌≡◌ {A = ℕ} 0 1 = cc in absurd (omega arith)
