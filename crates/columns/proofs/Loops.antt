-- The loops over the columns of a line: what holds after i of them, for any forms. Assumes nothing.
use Prim.Native.Nat.{ℕ, ◌+◌, ◌*◌, ◌≤◌, ◌<◌}
use mathlib.Core.Path.{◌≡◌, refl, sym, ap, ap₂, ◌∙◌}
use mathlib.Core.List.{List, [], ◌∷◌, ◌++◌, append-nil}
use mathlib.Core.Bool.{true, false, ◌&&◌}
use mathlib.Core.Logic.{◌⊎◌, inl, inr}
use native.Mathlib.Omega.{arith}
use native.Mathlib.Numerals.{add-one}
use lib.ListN.{length, get_or, take, drop, set, length-set}
use lib.Seq.{drop-cons, drop-drop, drop-length, take_all, take-suc-set, append_snoc, paste-zero}
use Rattle.std.specs.Prelude.{Option, Some, None}
use Rattle.std.specs.Option.{is_some, unwrap_or}
use Rattle.columns.specs.declared.forms.Form.{Form}
use Rattle.columns.specs.Column.{over, Wrote}
use Rattle.columns.specs.Line.{column_of}
use Rattle.columns.specs.Forms.{read_word, word_column, columns_good, words_of, read_line, line_of}
use Rattle.columns.proofs.Writing.{over_both}
use Rattle.columns.proofs.Tables.{length_line, line_none, read_by, other_read}

-- ---- a column more

next : {A : Type 0} (d : A) (l : List A) (i : ℕ) → i < length l → drop i l ≡ get_or l i d ∷ drop (i + 1) l
next d l i h = drop-cons l i d h ∙ ap (λ (k : ℕ). get_or l i d ∷ drop k l) (sym (add-one i))

-- by the word that is read of the next column
module _ (forms : List Form) (line : List ℕ) (i : ℕ) (h : i < length forms) (d : Form) (r : Option ℕ) (is : r ≡ read_word (get_or forms i d) (column_of line i)) where
  next_line : drop 21 (drop (21 * i) line) ≡ drop (21 * (i + 1)) line
  next_line =
      let e : 21 * i + 21 ≡ 21 * (i + 1) = omega arith in
      drop-drop 21 (21 * i) line ∙ ap (λ (k : ℕ). drop k line) e

  good_more : columns_good (drop i forms) (drop (21 * i) line) ≡ is_some r && columns_good (drop (i + 1) forms) (drop (21 * (i + 1)) line)
  unfolding columns_good column_of
  good_more =
      ap (λ (fs : List Form). columns_good fs (drop (21 * i) line)) (next d forms i h)
      ∙ ap₂ (λ (x : Option ℕ) (l : List ℕ). is_some x && columns_good (drop (i + 1) forms) l) (sym is) next_line

  words_more : words_of (drop i forms) (drop (21 * i) line) ≡ unwrap_or r 0 ∷ words_of (drop (i + 1) forms) (drop (21 * (i + 1)) line)
  unfolding words_of column_of
  words_more =
      ap (λ (fs : List Form). words_of fs (drop (21 * i) line)) (next d forms i h)
      ∙ ap₂ (λ (x : Option ℕ) (l : List ℕ). unwrap_or x 0 ∷ words_of (drop (i + 1) forms) l) (sym is) next_line

-- ---- reading

-- what is read after i columns, which are well formed: their words
pub record ReadTo (forms : List Form) (line words : List ℕ) (i : ℕ) : Type 0 where
  pub within : i ≤ length forms
  pub room : length words ≡ length forms
  pub goods : columns_good (drop i forms) (drop (21 * i) line) ≡ columns_good forms line
  pub firsts : take i words ++ words_of (drop i forms) (drop (21 * i) line) ≡ words_of forms line

module _ (forms : List Form) (line : List ℕ) where
  pub read_none : (length line ≡ 21 * length forms → ⊥) → None ≡ read_line forms line
  read_none h = sym (other_read forms line h)

  pub read_start : (words : List ℕ) → length words ≡ length forms → ReadTo forms line words 0
  read_start words h = record { within = omega arith; room = h; goods = refl; firsts = refl }

  module _ (words : List ℕ) (i : ℕ) (t : ReadTo forms line words i) where
    pub read_step : i < length forms → (d : Form) (w : ℕ) → Some w ≡ read_word (get_or forms i d) (column_of line i) → ReadTo forms line (set words i w) (i + 1)
    read_step h d w e = record {
      within = omega arith;
      room = length-set words i w ∙ t.room;
      goods = sym (good_more forms line i h d (Some w) e) ∙ t.goods;
      firsts =
          ap (λ (l : List ℕ). l ++ words_of (drop (i + 1) forms) (drop (21 * (i + 1)) line))
          (ap (λ (k : ℕ). take k (set words i w)) (add-one i) ∙ take-suc-set words i w (omega (arith, t.room)))
          ∙ append_snoc (take i words) w _
          ∙ ap (λ (l : List ℕ). take i words ++ l) (sym (words_more forms line i h d (Some w) e))
          ∙ t.firsts;
    }

    pub read_bad : i < length forms → (d : Form) → None ≡ read_word (get_or forms i d) (column_of line i) → length line ≡ 21 * length forms → None ≡ read_line forms line
    read_bad h d e l = read_by forms line l false (sym t.goods ∙ good_more forms line i h d None e)

    pub read_end : i ≡ length forms → length line ≡ 21 * length forms → Some words ≡ read_line forms line
    unfolding columns_good words_of
    read_end e l =
        let none : drop i forms ≡ [] = ap (λ (k : ℕ). drop k forms) e ∙ drop-length forms in
        let good : columns_good forms line ≡ true = sym t.goods ∙ ap (λ (fs : List Form). columns_good fs (drop (21 * i) line)) none in
        let all : words ≡ words_of forms line =
        sym (take_all i words (omega (arith, t.room))) ∙ sym (append-nil (take i words)) ∙ ap (λ (fs : List Form). take i words ++ words_of fs (drop (21 * i) line)) (sym none) ∙ t.firsts in
        ap (λ (l : List ℕ). Some l) all ∙ read_by forms line l true good

-- ---- writing

-- what is written when words are left, and forms for them: with these words, the whole line
pub record WritingOn (before : List ℕ) (at : ℕ) (line out : List ℕ) (to : ℕ) (forms : List Form) (words : List ℕ) : Type 0 where
  pub room : length out ≡ length before
  pub fits : to + 21 * length words ≤ length before
  pub columns : length words ≤ length forms
  pub place : to + 21 * length words ≡ at + length line
  pub whole : over out to (line_of forms words) ≡ over before at line

module _ (before : List ℕ) (at : ℕ) where
  pub write_start : (forms : List Form) (words : List ℕ) (fs : List Form) (ws : List ℕ) → fs ≡ forms → ws ≡ words → length words ≤ length forms → at + 21 * length words ≤ length before
      → WritingOn before at (line_of forms words) before at fs ws
  write_start forms words fs ws e f h r = rw (e, f) record { room = refl; fits = r; columns = h; place = omega (arith, length_line forms words h); whole = refl }

  module _ (line : List ℕ) where
    pub write_step : (out out' : List ℕ) (to to' : ℕ) (form : Form) (forms fs : List Form) (word : ℕ) (words ws : List ℕ)
        → WritingOn before at line out to forms words → forms ≡ form ∷ fs → words ≡ word ∷ ws → length out' ≡ length out
        → Wrote out to (word_column form word) 21 out' to' → WritingOn before at line out' to' fs ws
    unfolding line_of
    write_step out out' to to' form forms fs word words ws t e f k w = record {
      room = k ∙ t.room;
      fits = omega (arith, w.place, t.fits, ap length f);
      columns = omega (arith, t.columns, ap length e, ap length f);
      place = omega (arith, w.place, t.place, ap length f);
      whole =
          ap₂ (λ (l : List ℕ) (j : ℕ). over l j (line_of fs ws)) w.bytes w.place
          ∙ over_both out to 21 (word_column form word) (line_of fs ws) w.long (omega (arith, t.fits, t.room, ap length f))
          ∙ ap₂ (λ (x : List Form) (y : List ℕ). over out to (line_of x y)) (sym e) (sym f)
          ∙ t.whole;
    }

    -- no word is left, or no form and so no word
    none_left : (forms : List Form) (words : List ℕ) → length words ≤ length forms → (forms ≡ []) ⊎ (words ≡ []) → words ≡ []
    none_left forms [] h e = refl
    none_left [] (w ∷ words) h e = absurd (omega arith)
    none_left (f ∷ forms) (w ∷ words) h (inl e) = cc
    none_left (f ∷ forms) (w ∷ words) h (inr e) = cc

    pub write_end : (out : List ℕ) (to n : ℕ) (forms : List Form) (words : List ℕ) → WritingOn before at line out to forms words → (forms ≡ []) ⊎ (words ≡ [])
        → length line ≡ n → Wrote before at line n out to
    write_end out to n forms words t e l =
        let d : words ≡ [] = none_left forms words t.columns e in
        record {
          bytes = paste-zero out to [] ∙ ap (λ (x : List ℕ). over out to x) (sym (line_none forms)) ∙ ap (λ (ws : List ℕ). over out to (line_of forms ws)) (sym d) ∙ t.whole;
          long = l;
          place = omega (arith, t.place, ap length d);
        }
