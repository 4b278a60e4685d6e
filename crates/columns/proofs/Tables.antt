-- Columns by their forms: reading and writing undo each other, for any forms. Assumes nothing.
use Prim.Native.Nat.{ℕ, suc, ◌*◌, ◌≤◌}
use mathlib.Core.Path.{◌≡◌, refl, sym, ap, ap₂, ◌∙◌}
use mathlib.Core.List.{List, [], ◌∷◌, ◌++◌}
use mathlib.Core.Bool.{Bool, true, false, cond, ◌&&◌, true≢false}
use native.Mathlib.Omega.{arith}
use lib.Dec.{eqb}
use lib.ListN.{length, take, drop, length-append, length-drop, take-append-drop}
use lib.Seq.{take_at, drop_at}
use borrow.Author.Tests.{eqb-true, eq-eqb, ne_eqb}
use Rattle.std.specs.Prelude.{Option, Some, None}
use Rattle.std.specs.Option.{is_some, unwrap_or}
use Rattle.columns.specs.declared.forms.Form.{Form}
use Rattle.columns.specs.Forms.{is_word, word_column, read_word, columns_good, well_formed, words_of, read_line, line_of, are_words}
use Rattle.columns.proofs.Inverse.{both}
use Rattle.columns.proofs.Words.{read_word_back, read_word_was, length_word}

pub length_line : (forms : List Form) (words : List ℕ) → length words ≤ length forms → length (line_of forms words) ≡ 21 * length words
unfolding line_of
length_line [] [] h = refl
length_line [] (w ∷ words) h = absurd (omega arith)
length_line (f ∷ forms) [] h = refl
length_line (f ∷ forms) (w ∷ words) h =
    let i : length (line_of forms words) ≡ 21 * length words = length_line forms words (omega arith) in
    length-append (word_column f w) (line_of forms words) ∙ omega (arith, length_word f w)

words_length : (forms : List Form) (words : List ℕ) → are_words forms words ≡ true → length words ≡ length forms
unfolding are_words
words_length [] [] h = refl
words_length [] (w ∷ words) h = absurd (true≢false (sym h))
words_length (f ∷ forms) [] h = absurd (true≢false (sym h))
words_length (f ∷ forms) (w ∷ words) h = ap suc (words_length forms words (both (is_word f w) (are_words forms words) h).1)

back : (forms : List Form) (words : List ℕ) → are_words forms words ≡ true → (columns_good forms (line_of forms words) ≡ true) × (words_of forms (line_of forms words) ≡ words)
unfolding columns_good words_of line_of are_words
back [] [] h = (refl, refl)
back [] (w ∷ words) h = absurd (true≢false (sym h))
back (f ∷ forms) [] h = absurd (true≢false (sym h))
back (f ∷ forms) (w ∷ words) h =
    let b = both (is_word f w) (are_words forms words) h in
    let i = back forms words b.1 in
    let r : read_word f (take 21 (word_column f w ++ line_of forms words)) ≡ Some w =
    ap (λ (c : List ℕ). read_word f c) (take_at (word_column f w) (line_of forms words) 21 (length_word f w)) ∙ read_word_back f w b.0 in
    let d : drop 21 (word_column f w ++ line_of forms words) ≡ line_of forms words = drop_at (word_column f w) (line_of forms words) 21 (length_word f w) in (
      ap₂ (λ (x : Option ℕ) (l : List ℕ). is_some x && columns_good forms l) r d ∙ i.0,
      ap₂ (λ (x : Option ℕ) (l : List ℕ). unwrap_or x 0 ∷ words_of forms l) r d ∙ ap (λ (l : List ℕ). w ∷ l) i.1,
    )

was : (forms : List Form) (line : List ℕ) → length line ≡ 21 * length forms → columns_good forms line ≡ true → (line ≡ line_of forms (words_of forms line)) × (are_words forms (words_of forms line) ≡ true)
unfolding columns_good words_of line_of are_words
was [] [] l h = (refl, refl)
was [] (x ∷ line) l h = absurd (omega arith)
was (f ∷ forms) line l h =
    let b = both (is_some (read_word f (take 21 line))) (columns_good forms (drop 21 line)) h in
    let w = read_word_was f (take 21 line) b.0 in
    let i = was forms (drop 21 line) (length-drop 21 line ∙ omega arith) b.1 in (
      sym (take-append-drop 21 line) ∙ ap₂ (λ (s t : List ℕ). s ++ t) w.0 i.0,
      ap₂ (λ (s t : Bool). s && t) w.1 i.1,
    )

-- the line of words is read as them
pub read_back : (forms : List Form) (words : List ℕ) → are_words forms words ≡ true → (well_formed forms (line_of forms words) ≡ true) × (words_of forms (line_of forms words) ≡ words)
unfolding well_formed
read_back forms words h =
    let b = back forms words h in
    let n : length words ≡ length forms = words_length forms words h in
    let l : length (line_of forms words) ≡ 21 * length forms = length_line forms words (omega arith) ∙ ap (λ (k : ℕ). 21 * k) n in
    (ap₂ (λ (s t : Bool). s && t) (eq-eqb _ _ l) b.0, b.1)

-- and a line that is read is that of its words
pub was_written : (forms : List Form) (line : List ℕ) → well_formed forms line ≡ true → (line ≡ line_of forms (words_of forms line)) × (are_words forms (words_of forms line) ≡ true)
unfolding well_formed
was_written forms line h =
    let b = both (eqb (length line) (21 * length forms)) (columns_good forms line) h in
    was forms line (eqb-true _ _ b.0) b.1

pub well_length : (forms : List Form) (line : List ℕ) → well_formed forms line ≡ true → length line ≡ 21 * length forms
unfolding well_formed
well_length forms line h = eqb-true _ _ (both (eqb (length line) (21 * length forms)) (columns_good forms line) h).0

-- a line of another length has other columns
pub other_length : (forms : List Form) (line : List ℕ) → (length line ≡ 21 * length forms → ⊥) → well_formed forms line ≡ false
unfolding well_formed
other_length forms line h = rw (ne_eqb _ _ h)

pub other_read : (forms : List Form) (line : List ℕ) → (length line ≡ 21 * length forms → ⊥) → read_line forms line ≡ None
unfolding read_line
other_read forms line h = rw (other_length forms line h)

-- by its columns, where its length is theirs
pub read_by : (forms : List Form) (line : List ℕ) → length line ≡ 21 * length forms → (t : Bool) → columns_good forms line ≡ t
    → cond t (Some (words_of forms line)) None ≡ read_line forms line
unfolding read_line well_formed
read_by forms line h t e = rw (eq-eqb _ _ h, e)

pub line_none : (forms : List Form) → line_of forms [] ≡ []
unfolding line_of
line_none [] = refl
line_none (f ∷ forms) = refl

-- a line that is read has its length
pub read_length : (forms : List Form) (line words : List ℕ) → Some words ≡ read_line forms line → length line ≡ 21 * length forms
unfolding read_line
read_length forms line words e = by (well_formed forms line) refl e
  where
    by : (t : Bool) → well_formed forms line ≡ t → Some words ≡ cond t (Some (words_of forms line)) None → length line ≡ 21 * length forms
    by true h e = well_length forms line h
    by false h e = absurd (true≢false (ap is_some e))
