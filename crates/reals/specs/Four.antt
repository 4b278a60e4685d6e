-- Arrays of four, one element for each relief fan, read and built by index.
use Rattle.std.specs.Prelude.{ℕ, Bool, false, List, [], ◌∷◌, get_or, Float}
use Rattle.std.specs.Float.{nan}

-- the number, and the flag, at an index
abbrev pub real : List Float → ℕ → Float
real values i = get_or values i nan

abbrev pub flag : List Bool → ℕ → Bool
flag values i = get_or values i false

-- what f gives at each of the four indices, in order
abbrev pub each4 : {A : Type 0} → (ℕ → A) → List A
each4 f = f 0 ∷ f 1 ∷ f 2 ∷ f 3 ∷ []

-- from z, one step for each of the four indices, in order
abbrev pub fold4 : {A : Type 0} → (A → ℕ → A) → A → A
fold4 f z = f (f (f (f z 0) 1) 2) 3
