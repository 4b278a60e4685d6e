-- A row's step on lent arrays as the caller gets it, where its parts are known. Assumes nothing.
use mathlib.Core.Path.{◌≡◌}
use mathlib.Core.List.{List}
use lib.Ieee.{Float}
use Rattle.woldgrater.specs.declared.answered.Answered.{Answered}
use Rattle.woldgrater.specs.Memory.{memory, Called}

-- the parts as a call leaves them
abbrev pub left : {W V : Type 0} → W → Answered V → List Float → List Float → Called W V
left words a times integrals = record { left = memory words times integrals; answered = a }

pub left_is : {W V : Type 0} {w w' : W} {a a' : Answered V} → w ≡ w' → a ≡ a' → (times integrals : List Float) → left w a times integrals ≡ left w' a' times integrals
left_is w a times integrals = λ i. left (w i) (a i) times integrals
