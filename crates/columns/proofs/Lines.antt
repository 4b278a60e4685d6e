-- The lengths of lines: of a status alone, and of words. Assumes nothing.
use Prim.Native.Nat.{ℕ, ◌+◌, ◌*◌, ◌≤◌}
use mathlib.Core.Path.{◌≡◌, ap, ◌∙◌}
use mathlib.Core.List.{List, [], ◌∷◌, ◌++◌, append-nil}
use mathlib.Core.Bool.{false}
use lib.ListN.{length, length-append}
use Rattle.columns.specs.Column.{column}
use Rattle.columns.specs.declared.forms.Form.{Form}
use Rattle.columns.specs.declared.forms.Form.TheVariants.{Unsigned}
use Rattle.columns.specs.Forms.{word_column, line_of}
use Rattle.columns.specs.Line.{end_of_line, status_line, words_line}
use Rattle.columns.proofs.Inverse.{length_column}
use Rattle.columns.proofs.Tables.{length_line, line_none}

-- 22 bytes with its newline
pub length_status : (n : ℕ) → length (status_line n) ≡ 22
unfolding status_line
length_status n = length-append (column false n) end_of_line ∙ ap (λ (k : ℕ). k + 1) (length_column false n)

pub length_words_line : (forms : List Form) (words : List ℕ) → length words ≤ length forms → length (words_line forms words) ≡ 21 * length words + 1
unfolding words_line
length_words_line forms words h = length-append (line_of forms words) end_of_line ∙ ap (λ (k : ℕ). k + 1) (length_line forms words h)

-- an answer that holds a status alone
pub status_words_line : (forms : List Form) (status : ℕ) → words_line (Unsigned ∷ forms) (status ∷ []) ≡ status_line status
unfolding words_line status_line line_of word_column
status_words_line forms status = rw (line_none forms) (ap (λ (l : List ℕ). l ++ end_of_line) (append-nil (column false status)))
