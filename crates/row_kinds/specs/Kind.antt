-- The kinds of rows by their names: the first line is, with its newline, one of `freeze`, `relief`, `econ`.
use Rattle.std.specs.Prelude.{ℕ, List, [], ◌∷◌, cond}
use Rattle.columns.specs.Scan.{same}
use Rattle.row_kinds.specs.declared.kind.Kind.TheVariants.{Freeze, Relief, Econ}
use Rattle.row_kinds.specs.declared.kind.Phase.{Phase}
use Rattle.row_kinds.specs.declared.kind.Phase.TheVariants.{Rows, Stopped}

-- the bytes of the three words
abbrev pub freeze : List ℕ
freeze = 102 ∷ 114 ∷ 101 ∷ 101 ∷ 122 ∷ 101 ∷ []

abbrev pub relief : List ℕ
relief = 114 ∷ 101 ∷ 108 ∷ 105 ∷ 101 ∷ 102 ∷ []

abbrev pub econ : List ℕ
econ = 101 ∷ 99 ∷ 111 ∷ 110 ∷ []

-- what follows a first line: the rows of the kind that it names, or nothing
unfoldable pub phase_after : List ℕ → Phase
phase_after line = cond (same line freeze) (Rows Freeze) (cond (same line relief) (Rows Relief) (cond (same line econ) (Rows Econ) Stopped))
