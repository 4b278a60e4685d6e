-- The fan constants as src/table.rt has them, in bytes, and the floats that it makes of them.
use Prim.Native.Nat.{ℕ}
use mathlib.Core.List.{List, [], ◌∷◌}
use lib.Dec.{eqb}
use lib.IntN.{pos}
use lib.Ieee.{Float, binary64, of_int}
use Rattle.reals.specs.Switch.{bool_to_real}

-- STA_VEC and REL_FAN_SUPPLY of src/table.rt
abbrev pub weights : List ℕ
weights = 2 ∷ 3 ∷ 1 ∷ 4 ∷ []

abbrev pub supplies : List ℕ
supplies = 0 ∷ 0 ∷ 1 ∷ 1 ∷ []

-- a weight as the code makes it a float, and the two entries of a relief fan that is on supply fan s
abbrev pub as_real : ℕ → Float
as_real n = of_int binary64 (pos n)

abbrev pub entries : ℕ → List Float
entries s = bool_to_real (eqb s 0) ∷ bool_to_real (eqb s 1) ∷ []
