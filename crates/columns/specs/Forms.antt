-- Columns by their forms. What stands in a column is a word of 64 bits. proofs/Tables.antt: what was written reads back to its words,
-- and a line that reads as words is the line that writing them gives, for any forms.
use Rattle.std.specs.Prelude.{ℕ, ◌-◌, ◌*◌, List, [], ◌∷◌, ◌++◌, Bool, true, false, cond, ◌&&◌, ltb, leb, eqb, length, take, drop, Option, Some, None}
use Rattle.std.specs.Option.{is_some, unwrap_or}
use Rattle.columns.specs.Column.{width, column}
use Rattle.columns.specs.Scan.{same, decimal, has_minus, limit}
use Rattle.columns.specs.Word.{half, last_word}
use Rattle.columns.specs.declared.forms.Form.{Form}
use Rattle.columns.specs.declared.forms.Form.TheVariants.{Float, YesNo, Signed, Unsigned}

-- ---- the forms

-- its word is the 64-bit pattern of a float
abbrev pub is_float : Form → Bool
is_float Float = true
is_float YesNo = false
is_float Signed = false
is_float Unsigned = false

-- its word is 1 or 0
abbrev pub is_yes_no : Form → Bool
is_yes_no Float = false
is_yes_no YesNo = true
is_yes_no Signed = false
is_yes_no Unsigned = false

-- its word is the two's complement of a signed number
abbrev pub is_signed : Form → Bool
is_signed Float = false
is_signed YesNo = false
is_signed Signed = true
is_signed Unsigned = false

-- the form that a byte names: 'f', 'b' and 'i' those above, any other byte an unsigned number
abbrev pub form_of : ℕ → Form
form_of byte = cond (eqb byte 102) Float (cond (eqb byte 98) YesNo (cond (eqb byte 105) Signed Unsigned))

-- ---- one column

-- a word of a form: 64 bits, and for a yes or no 1 or 0
unfoldable pub is_word : Form → ℕ → Bool
is_word form word = ltb word (cond (is_yes_no form) 2 limit)

-- the words of negative numbers are those from half of them on
abbrev pub is_negative : Form → ℕ → Bool
is_negative form word = is_signed form && leb half word

-- the number of a word without its sign
abbrev pub magnitude : Form → ℕ → ℕ
magnitude form word = cond (is_negative form word) (limit - word) word

-- the column of a word
unfoldable pub word_column : Form → ℕ → List ℕ
word_column form word = column (is_negative form word) (magnitude form word)

-- the word of which some bytes may be the column
abbrev pub word_in : Form → List ℕ → ℕ
word_in form bytes = cond (is_signed form && has_minus bytes) (limit - decimal bytes) (decimal bytes)

-- a column is read as a word exactly when it is the column of that word; else it is badly formed
unfoldable pub read_word : Form → List ℕ → Option ℕ
read_word form bytes =
    let word = word_in form bytes in
    cond (same bytes (word_column form word) && is_word form word) (Some word) None

-- the largest number of a form
unfoldable pub largest : Form → ℕ
largest form = cond (is_yes_no form) 1 (cond (is_signed form) (half - 1) last_word)

-- ---- the columns of a line

-- each is well formed
unfoldable pub columns_good : List Form → List ℕ → Bool
columns_good [] line = true
columns_good (form ∷ forms) line = is_some (read_word form (take width line)) && columns_good forms (drop width line)

-- a line has columns of these forms, and nothing else
unfoldable pub well_formed : List Form → List ℕ → Bool
well_formed forms line = eqb (length line) (width * length forms) && columns_good forms line

-- their words
unfoldable pub words_of : List Form → List ℕ → List ℕ
words_of [] line = []
words_of (form ∷ forms) line = unwrap_or (read_word form (take width line)) 0 ∷ words_of forms (drop width line)

-- the words of a line that is well formed
unfoldable pub read_line : List Form → List ℕ → Option (List ℕ)
read_line forms line = cond (well_formed forms line) (Some (words_of forms line)) None

-- the line of words, as far as they go
unfoldable pub line_of : List Form → List ℕ → List ℕ
line_of [] words = []
line_of (form ∷ forms) [] = []
line_of (form ∷ forms) (word ∷ words) = word_column form word ++ line_of forms words

-- a word for each form, and each a word of its form
unfoldable pub are_words : List Form → List ℕ → Bool
are_words [] [] = true
are_words [] (word ∷ words) = false
are_words (form ∷ forms) [] = false
are_words (form ∷ forms) (word ∷ words) = is_word form word && are_words forms words
