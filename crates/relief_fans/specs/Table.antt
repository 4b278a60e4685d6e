-- The fan constants of ReliefFanGroup.mo (staVec, relFanMat) as relief_fan_group.rs sets them; the code keeps them in a table of bytes.
use Rattle.std.specs.Prelude.{ℕ, Bool, List, [], ◌∷◌, get_or, Float}
use Rattle.std.specs.Float.{binary64}
use Rattle.std.specs.Float.Ieee.{add, mul}
use Rattle.reals.specs.Constants.{plus_zero, one}
use Rattle.reals.specs.Four.{real, flag, each4}
use Rattle.reals.specs.Switch.{bool_to_real}
use Rattle.relief_fans.specs.Constants.{two, three, four}

-- staVec, the weight of each relief fan: while both supply fans are on, the fan with the lowest weight starts first
abbrev pub sta_vec : List Float
sta_vec = two ∷ three ∷ one ∷ four ∷ []

-- relFanMat, a row for each relief fan and a column for each supply fan: fans 1 and 2 on supply 1, 3 and 4 on supply 2
abbrev pub rel_fan_mat : List (List Float)
rel_fan_mat = (one ∷ plus_zero ∷ []) ∷ (one ∷ plus_zero ∷ []) ∷ (plus_zero ∷ one ∷ []) ∷ (plus_zero ∷ one ∷ []) ∷ []

-- the entry of relief fan i and supply fan j
abbrev pub on_supply : ℕ → ℕ → Float
on_supply i j = real (get_or rel_fan_mat i []) j

-- the matrix gain (CDL.Reals.MatrixGain): 1 for a relief fan whose supply fan is on, else 0
abbrev pub ena_rel_at : List Bool → ℕ → Float
ena_rel_at supply i = add binary64 (mul binary64 (on_supply i 0) (bool_to_real (flag supply 0))) (mul binary64 (on_supply i 1) (bool_to_real (flag supply 1)))

unfoldable pub ena_rel : List Bool → List Float
ena_rel supply = each4 (ena_rel_at supply)

-- the weight of an enabled fan, 0 for the others: the fan's order in staging
abbrev pub gai_at : List Float → ℕ → Float
gai_at ena i = mul binary64 (real ena i) (real sta_vec i)

unfoldable pub gai : List Float → List Float
gai ena = each4 (gai_at ena)
