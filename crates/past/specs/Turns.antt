-- Things that turn on their own values at the rows before: the hold and the relief pulse. They are read with the list of those values, the newest first.
use Rattle.std.specs.Prelude.{ℕ, suc, Bool, false, not, ◌&&◌, ◌||◌, cond, List, [], ◌∷◌, length, drop, Float}
use Rattle.std.specs.Bool.{beq}
use Rattle.std.specs.Float.Ieee.{le}
use Rattle.past.specs.Past.{some, every, since_with, row0}
use Rattle.past.specs.Runs.{since_time, gaps}

-- the values of a thing at all rows of a past: f reads the past up to a row and the values at the rows before it
unfoldable pub values : {A : Type 0} → (List A → List Bool → Bool) → List A → List Bool
values f [] = []
values f (x ∷ h) = let before = values f h in f (x ∷ h) before ∷ before

-- the newest value; before row 0 a thing is false
abbrev pub newest : List Bool → Bool
newest [] = false
newest (y ∷ ys) = y

-- at the newest of the values: row 0, or a change
unfoldable pub turns : List Bool → Bool
turns ys = row0 ys || not (beq (newest ys) (newest (drop 1 ys)))

module _ {A : Type 0} (time : A → Float) (fall rise : Float) (u : List A → Bool) where
  -- the hold changes here: the input differs from its value before, and the gaps since row 0 or its last change, added in order, reach the required time
  unfoldable pub changes : List A → List Bool → Bool
  changes h before =
      not (beq (u h) (newest before))
      && since_with (λ ys. not (turns ys)) turns (λ k. le (cond (newest before) fall rise) (gaps time (suc k) h)) before

  -- row 0 takes the input, a change takes the input, and any other row keeps the value before
  unfoldable pub hold_here : List A → List Bool → Bool
  hold_here h before = cond (row0 h || changes h before) (u h) (newest before)

  -- the hold of the input u: `fall` seconds are required to fall and `rise` to rise
  unfoldable pub hold : List A → Bool
  hold h = newest (values hold_here h)

module _ {A : Type 0} (time : A → Float) (n : Float) (request : List A → Bool) where
  -- at the row k rows ago: a request, and no pulse on the row before it
  unfoldable pub waits : List A → List Bool → ℕ → Bool
  waits h before k = request (drop k h) && not (newest (drop k before))

  -- the unbroken run of such rows up to here starts k rows ago, and the time here minus the time of its start is at least n
  unfoldable pub pulse_here : List A → List Bool → Bool
  pulse_here h before =
      some (length h) (λ k. waits h before k && (row0 (drop k h) || not (waits h before (suc k))) && every k (waits h before) && le n (since_time time k h))

  -- the pulse after n seconds of requests
  unfoldable pub pulse : List A → Bool
  pulse h = newest (values pulse_here h)
