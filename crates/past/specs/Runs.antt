-- Unbroken runs of rows, and the time that they last.
use Rattle.std.specs.Prelude.{ℕ, zero, suc, ◌-◌, ◌^◌, ◌≤◌, ◌≡◌, Bool, not, ◌&&◌, ◌||◌, cond, List, [], ◌∷◌, drop, Float}
use Rattle.std.specs.Float.{binary64}
use Rattle.std.specs.Float.Ieee.{add, sub, le}
use Rattle.reals.specs.Constants.{plus_zero, whole}
use Rattle.logical.specs.declared.timer.TimerOutput.{TimerOutput}
use Rattle.past.specs.Past.{some, first, since_with, row0, rises, risen, run_start}

module _ {A : Type 0} (time : A → Float) where
  -- the time of the row here; before row 0 there is none, and 0 stands there
  abbrev pub time_of : List A → Float
  time_of [] = plus_zero
  time_of (x ∷ h) = time x

  -- the time here less the time k rows ago
  abbrev pub since_time : ℕ → List A → Float
  since_time k h = sub binary64 (time_of h) (time_of (drop k h))

  -- u has passed n: the unbroken true run up to here starts at s, and some row after s up to here has time minus time of s at least n
  unfoldable pub passed : Float → (List A → Bool) → List A → Bool
  passed n u h = since_with u (rises u) (λ k. some k (λ j. le n (sub binary64 (time_of (drop j h)) (time_of (drop k h))))) h

  -- the same with the present row only: the time here minus the time of s is at least n
  unfoldable pub running : Float → (List A → Bool) → List A → Bool
  running n u h = since_with u (rises u) (λ k. le n (since_time k h)) h

  -- the elapsed time of u: the time here minus the time of the start of the unbroken true run up to here; 0 where u is false or has just risen
  unfoldable pub elapsed : (List A → Bool) → List A → Float
  elapsed u h = cond (u h && not (rises u h)) (since_time (run_start u h) h) plus_zero

  -- what a timer with the threshold n on u answers here: one that holds its pass, and one that tests the present row only
  abbrev pub held_timer : Float → (List A → Bool) → List A → TimerOutput
  held_timer n u h = record { passed = passed n u h; elapsed = elapsed u h }

  abbrev pub present_timer : Float → (List A → Bool) → List A → TimerOutput
  present_timer n u h = record { passed = running n u h; elapsed = elapsed u h }

  -- the time of every row is a whole number of seconds up to 2 ^ 53, of which binary64 holds each; so is the 0 that stands before row 0
  abbrev pub WholeSeconds : List A → Type 0
  WholeSeconds h = (k : ℕ) → (s : ℕ) × ((s ≤ 2 ^ 53) × (time_of (drop k h) ≡ whole s))

  -- the gaps between neighbouring rows from the row k rows ago up to here, added in order
  unfoldable pub gaps : ℕ → List A → Float
  gaps zero h = plus_zero
  gaps (suc k) h = add binary64 (gaps k (drop 1 h)) (since_time 1 h)

  -- the gap sum from the row k rows ago is at least n at some row from there up to here
  unfoldable pub reached : Float → ℕ → List A → Bool
  reached n k h = some (suc k) (λ j. le n (gaps (k - j) (drop j h)))

  -- a delay: the unbroken true run up to here began on row 0, or the gap sum from its start reached n at some row of it
  unfoldable pub delayed : Float → (List A → Bool) → List A → Bool
  delayed n u h = since_with u (rises u) (λ k. row0 (drop k h) || reached n k h) h

  -- ---- from the nearest rise on, whatever u does since
  -- the row j rows ago is n or more after the nearest row up to here where u rises
  abbrev pub due : Float → (List A → Bool) → List A → ℕ → Bool
  due n u h j = le n (sub binary64 (time_of (drop j h)) (time_of (drop (run_start u h) h)))

  -- u lapses after n: let s be the nearest row up to here where u rises; here is the first row after s whose time minus time of s is at least n
  unfoldable pub lapses : Float → (List A → Bool) → List A → Bool
  lapses n u h = risen u h && first (run_start u h) (due n u h)

  -- u has lapsed: some row after s up to here has time minus time of s at least n
  unfoldable pub lapsed : Float → (List A → Bool) → List A → Bool
  lapsed n u h = risen u h && some (run_start u h) (due n u h)

  -- within n of the nearest rise: u has risen, and no row after s up to here has time minus time of s at least n
  unfoldable pub within : Float → (List A → Bool) → List A → Bool
  within n u h = risen u h && not (some (run_start u h) (due n u h))

  -- the time here minus the time of s; 0 where u has just risen, and before its first rise
  unfoldable pub since_rise : (List A → Bool) → List A → Float
  since_rise u h = cond (risen u h && not (rises u h)) (since_time (run_start u h) h) plus_zero

  -- what a timer with the threshold n that runs on answers here
  abbrev pub run_on_timer : Float → (List A → Bool) → List A → TimerOutput
  run_on_timer n u h = record { passed = lapsed n u h; elapsed = since_rise u h }
