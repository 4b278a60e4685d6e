-- Lines made of columns (docs/ROW_FILES.md): byte 10 is after each line, and a refused line prints status only.
use Rattle.std.specs.Prelude.{ℕ, ◌*◌, List, [], ◌∷◌, ◌++◌, false, take, drop}
use Rattle.columns.specs.Column.{width, column}
use Rattle.columns.specs.declared.forms.Form.{Form}
use Rattle.columns.specs.Forms.{line_of}

abbrev pub newline : ℕ
newline = 10

-- the column k of a line, counted from 0
unfoldable pub column_of : List ℕ → ℕ → List ℕ
column_of line k = take width (drop (width * k) line)

-- what ends a line
abbrev pub end_of_line : List ℕ
end_of_line = newline ∷ []

-- the line of a status alone
unfoldable pub status_line : ℕ → List ℕ
status_line status = column false status ++ end_of_line

-- the line of words by the forms of its columns, with its newline
unfoldable pub words_line : List Form → List ℕ → List ℕ
words_line forms words = line_of forms words ++ end_of_line
