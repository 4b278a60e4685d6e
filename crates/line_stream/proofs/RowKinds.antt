-- The lines of any kind of rows: the length of an answer, that bytes past the 255th of a line make no difference, and a line answered by the words that were
-- read of it. Assumes nothing.
use Prim.Native.Nat.{ℕ, ◌+◌, ◌*◌, ◌≤◌}
use mathlib.Core.Path.{◌≡◌, refl, sym, ap, subst, ◌∙◌}
use mathlib.Core.List.{List, [], ◌∷◌}
use mathlib.Core.Bool.{Bool, true, false, cond}
use native.Mathlib.Omega.{arith}
use lib.ListN.{length, take, length-take}
use lib.Seq.{take_all}
use Rattle.std.specs.Prelude.{Option, Some, None, Result, Ok, Err}
use Rattle.columns.specs.declared.forms.Form.{Form}
use Rattle.columns.specs.Column.{Wrote}
use Rattle.columns.specs.Forms.{well_formed, words_of, read_line}
use Rattle.columns.specs.Line.{status_line, words_line}
use Rattle.columns.proofs.Writing.{wrote_text}
use Rattle.columns.proofs.Tables.{other_length, read_length, well_length}
use Rattle.columns.proofs.Lines.{length_status, length_words_line, status_words_line}
use Rattle.refusals.specs.declared.Refusal.{Refusal}
use Rattle.line_stream.specs.Lines.{Answer, Answered}
use Rattle.line_stream.specs.RowKind.{RowKind, RowLine, Row, Malformed, answer_words, row_line, read_answered, line_answered, Stepped, Sized}
use Rattle.line_stream.proofs.Cutting.{at_most_or_above}

-- the answer to a line by the words that are written of it, with a form and room for each
pub record SaidBy {Q : Type 0} (a : Answer Q) (forms : List Form) (line : List ℕ) (next : Q) (words : List ℕ) : Type 0 where
  pub columns : length words ≤ length forms
  pub room : 21 * length words + 1 ≤ 22 * (length line + 1)
  pub answered : record { next = next; said = words_line forms words } ≡ a

module _ {S R C : Type 0} (kind : RowKind S R C) where
  module _ (sized : Sized kind) where
    other_malformed : (line : List ℕ) → (length line ≡ 21 * length kind.row_forms → ⊥) → row_line kind line ≡ Malformed
    unfolding row_line
    other_malformed line h = rw (other_length kind.row_forms line h)

    -- bytes past the 255th of a line make no difference
    pub kind_cut : (q : S) (n : ℕ) (p : List ℕ) → 255 ≤ n → line_answered kind q (take n p) ≡ line_answered kind q p
    unfolding line_answered
    kind_cut q n p m =
        at_most_or_above (length p) n
        (λ h. ap (λ (x : List ℕ). read_answered kind q (row_line kind x)) (take_all n p h))
        (λ h.
        let c : length (take n p) ≡ n = length-take n p ∙ omega arith in
        ap (λ (x : RowLine R). read_answered kind q x)
        (other_malformed (take n p) (λ x. omega (arith, sized.columns)) ∙ sym (other_malformed p (λ x. omega (arith, sized.columns)))))

    -- an answer has a form for each of its words
    pub words_fit : (a : Result C Refusal) → length (answer_words kind a) ≤ length kind.answer_forms
    words_fit (Ok commands) = sized.words commands
    words_fit (Err refusal) = omega (arith, ap length sized.status)

    -- and an answer takes 22 bytes at most for each byte of the line and for the newline
    pub kind_room : (q : S) (line : List ℕ) → length (line_answered kind q line).said ≤ 22 * (length line + 1)
    unfolding line_answered row_line read_answered
    kind_room q line = by (well_formed kind.row_forms line) refl
      where
        by : (t : Bool) → well_formed kind.row_forms line ≡ t
            → length (read_answered kind q (cond t (Row (kind.row_of (words_of kind.row_forms line))) Malformed)).said ≤ 22 * (length line + 1)
        by false e = omega (arith, length_status 5)
        by true e =
            let a = kind.answer q (kind.row_of (words_of kind.row_forms line)) in
            omega (arith, length_words_line kind.answer_forms (answer_words kind a) (words_fit a), words_fit a, sized.room, well_length kind.row_forms line e)

  -- ---- a line answered by the words that were read of it

  -- the row of the words of a line
  abbrev row_in : Option (List ℕ) → RowLine R
  row_in None = Malformed
  row_in (Some words) = Row (kind.row_of words)

  row_is : (line : List ℕ) → row_line kind line ≡ row_in (read_line kind.row_forms line)
  unfolding row_line read_line
  row_is line = by (well_formed kind.row_forms line)
    where
      by : (t : Bool) → cond t (Row (kind.row_of (words_of kind.row_forms line))) Malformed ≡ row_in (cond t (Some (words_of kind.row_forms line)) None)
      by true = refl
      by false = refl

  module _ (state : S) (line out : List ℕ) (at : ℕ) (after : List ℕ) (place : ℕ) where
    -- a badly formed line
    pub bad_answered : None ≡ read_line kind.row_forms line → Wrote out at (status_line 5) 22 after place
        → Answered (line_answered kind state line) out at state after place
    unfolding line_answered read_answered
    bad_answered e w =
        subst (λ (x : RowLine R). Answered (read_answered kind state x) out at state after place) (ap row_in e ∙ sym (row_is line))
        (record { state = refl; text = wrote_text _ _ _ refl w })

    -- a row, by the text that is written of its answer
    pub row_answered : (words : List ℕ) → Some words ≡ read_line kind.row_forms line → (next : S) (answer : Result C Refusal) → Stepped kind state (kind.row_of words) next answer
        → (text : List ℕ) (n : ℕ) → text ≡ words_line kind.answer_forms (answer_words kind answer) → Wrote out at text n after place
        → Answered (line_answered kind state line) out at next after place
    unfolding line_answered read_answered
    row_answered words e next answer s text n t w =
        subst (λ (x : RowLine R). Answered (read_answered kind state x) out at next after place) (ap row_in e ∙ sym (row_is line))
        (record { state = s.moved; text = wrote_text _ _ _ (t ∙ ap (λ (x : Result C Refusal). words_line kind.answer_forms (answer_words kind x)) s.said) w })

  -- ---- the same by the words of the answer, of which each has its form, and all have room
  module _ (sized : Sized kind) (state : S) (line : List ℕ) where
    -- a row
    pub row_said : (words : List ℕ) → Some words ≡ read_line kind.row_forms line → (next : S) (answer : Result C Refusal) → Stepped kind state (kind.row_of words) next answer
        → SaidBy (line_answered kind state line) kind.answer_forms line next (answer_words kind answer)
    unfolding line_answered read_answered
    row_said words e next answer s = record {
      columns = words_fit sized answer;
      room = omega (arith, words_fit sized answer, sized.room, read_length kind.row_forms line words e);
      answered =
          subst (λ (x : RowLine R). record { next = next; said = words_line kind.answer_forms (answer_words kind answer) } ≡ read_answered kind state x)
          (ap row_in e ∙ sym (row_is line))
          (λ i. record { next = s.moved i; said = words_line kind.answer_forms (answer_words kind (s.said i)) });
    }

    -- a badly formed line
    pub bad_said : None ≡ read_line kind.row_forms line → SaidBy (line_answered kind state line) kind.answer_forms line state (5 ∷ [])
    unfolding line_answered read_answered
    bad_said e = record {
      columns = omega (arith, ap length sized.status);
      room = omega arith;
      answered =
          subst (λ (x : RowLine R). record { next = state; said = words_line kind.answer_forms (5 ∷ []) } ≡ read_answered kind state x)
          (ap row_in e ∙ sym (row_is line))
          (ap (λ (x : List ℕ). record { next = state; said = x })
          (ap (λ (x : List Form). words_line x (5 ∷ [])) sized.status ∙ status_words_line sized.commands 5));
    }
