-- The example of a row line, byte for byte.
use Rattle.std.specs.Prelude.{ℕ, List, [], ◌∷◌, ◌++◌}
use Prim.Native.Char.{code}
use Prim.Native.String.{String, [] as none, ◌∷◌ as ◌before◌}
use Rattle.columns.specs.Line.{end_of_line}

-- the bytes of a text whose characters are all of ASCII
unfoldable pub bytes_of : String → List ℕ
bytes_of none = []
bytes_of (c before s) = code c ∷ bytes_of s

-- the first line, and the row: time, flow, setpoint, signal, outdoor 256 K, fan, mode, stage
unfoldable pub first_text : List ℕ
first_text = bytes_of "econ"

unfoldable pub row_text : List ℕ
row_text = bytes_of "                    0                    0                    0                    0  4643211215818981376                    1                    1                    0"

-- its answer: status, outdoor minimum, loop on, outdoor command, return command = 1.0
unfoldable pub answer_text : List ℕ
answer_text = bytes_of "                    0                    0                    1                    0  4607182418800017408"

-- byte 10 after each line
unfoldable pub input_bytes : List ℕ
input_bytes = first_text ++ end_of_line ++ row_text ++ end_of_line

unfoldable pub output_bytes : List ℕ
output_bytes = answer_text ++ end_of_line
