-- A block stepped over a past, and the order of the times of accepted rows.
use Rattle.std.specs.Prelude.{Bool, true, ◌&&◌, List, [], ◌∷◌, Float}
use Rattle.std.specs.Float.Ieee.{le}
use Rattle.reals.specs.Sign.{is_time}

-- the block's state after the rows of a past: from its start, one update a row, the oldest row first. An update sees the past of its row, off which its
-- inputs are read.
abbrev pub stepped : {A S : Type 0} → S → (S → List A → S) → List A → S
stepped new update [] = new
stepped new update (x ∷ h) = update (stepped new update h) (x ∷ h)

-- a time is not below that of the row before, if there is one
abbrev pub not_before : {A : Type 0} → (A → Float) → Float → List A → Bool
not_before time t [] = true
not_before time t (y ∷ h) = le (time y) t

-- the times of accepted rows: each finite with the sign bit clear, none below the one before
abbrev pub in_order : {A : Type 0} → (A → Float) → List A → Bool
in_order time [] = true
in_order time (x ∷ h) = is_time (time x) && not_before time (time x) h && in_order time h
