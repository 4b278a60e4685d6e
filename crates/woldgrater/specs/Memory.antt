-- What a caller holds of a sequence with a window, and what a call leaves of it.
use Rattle.std.specs.Prelude.{List, Float}
use Rattle.woldgrater.specs.declared.answered.Answered.{Answered}

-- what is held: the words of the state, and the arrays of the window
pub record Memory (W : Type 0) : Type 0 where
  pub words : W
  pub times : List Float
  pub integrals : List Float

abbrev pub memory : {W : Type 0} → W → List Float → List Float → Memory W
memory words times integrals = record { words = words; times = times; integrals = integrals }

-- what a call leaves: the memory for the next one, the status and the commands
pub record Called (W V : Type 0) : Type 0 where
  pub left : Memory W
  pub answered : Answered V
