-- The window read off the rows before, without state. A past is the list of the accepted rows before, or of their
-- times, newest first.
use Rattle.std.specs.Prelude.{Bool, true, false, not, ◌&&◌, cond, List, [], ◌∷◌, eqb, length, Float}
use Rattle.std.specs.Float.Ieee.{le, lt, eq}
use Rattle.reals.specs.Sign.{is_time}
use Rattle.moving_average.specs.declared.state.MovingAverageState.{MovingAverageState}
use Rattle.moving_average.specs.Constants.{capacity}
use Rattle.moving_average.specs.State.{cutoff, moving_average_new, moving_average_update}

-- ---- the window

-- from the last time at or before the limit on, or all if none is
unfoldable pub from : Float → List Float → List Float
from limit [] = []
from limit (t ∷ h) = cond (le t limit) (t ∷ []) (t ∷ from limit h)

-- of times before `later`: those that differ from the next later one
unfoldable pub different_before : Float → List Float → List Float
different_before later [] = []
different_before later (t ∷ h) = cond (eq t later) (different_before t h) (t ∷ different_before t h)

-- one for each different time; equal ones stand side by side, since no accepted time is below the one before
unfoldable pub different : List Float → List Float
different [] = []
different (t ∷ h) = t ∷ different_before t h

-- the times of the window's points after dropping, for a row at t
abbrev pub window_times : List Float → Float → List Float
window_times h t = different (from (cutoff t) h)

-- ---- what a row at t refuses, read off the times of the accepted rows before

-- the last accepted time is t
abbrev pub last_time_is : Float → List Float → Bool
last_time_is t [] = false
last_time_is t (p ∷ h) = eq p t

-- refusal 4: the window after dropping holds 512 and the last point's time differs
unfoldable pub window_is_full : List Float → Float → Bool
window_is_full h t = eqb (length (window_times h t)) capacity && not (last_time_is t h)

-- refusal 3: the time is below the last accepted time
abbrev pub below_last : List Float → Float → Bool
below_last [] t = false
below_last (p ∷ h) t = lt t p

-- what refusals 1 to 3 ask of the time: it is finite, its sign bit is clear, and it is not below the last accepted time
abbrev pub time_accepted : List Float → Float → Bool
time_accepted h t = is_time t && not (below_last h t)

-- each row of the past was accepted, as far as its time tells
unfoldable pub accepted : List Float → Bool
accepted [] = true
accepted (t ∷ h) = time_accepted h t && (not (window_is_full h t) && accepted h)

module _ {R : Type 0} (time input : R → Float) where
  -- the state that the rows of a past lead to from a fresh one, by their times and inputs
  unfoldable pub moving_average_of : List R → MovingAverageState
  moving_average_of [] = moving_average_new
  moving_average_of (r ∷ h) = moving_average_update (moving_average_of h) (time r) (input r)
