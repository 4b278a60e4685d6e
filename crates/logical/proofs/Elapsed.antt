-- The elapsed time of freeze protection's timer and of the relief group's beside that of `timer` of cdl_recurrences.rs; and what rounding does to the time that is left.
-- Assumes nothing.
use Rattle.std.specs.Prelude.{Option, None, Some}
use mathlib.Core.Path.{◌≡◌, refl, sym, ap, ap₂, ◌∙◌}
use mathlib.Core.Bool.{Bool, true, false, not, ◌&&◌, cond}
use mathlib.Core.List.{List, [], ◌∷◌, map}
use lib.Dec.{T}
use Prim.Native.Nat.{ℕ}
use lib.Ieee.{Float, nan, inf, binary64, sub, lt, eq, le, is_nan, round, of_bits}
use lib.Ieee.Fits.{and_l, and_r}
use lib.Ieee.Scale.{finite}
use Rattle.reals.specs.Constants.{plus_zero, whole}
use Rattle.reals.specs.Order.{greater}
use Rattle.reals.specs.Seen.{seen_elapsed}
use Rattle.reals.specs.Switch.{switch}
use Rattle.reals.proofs.Times.{self_gap}
use Rattle.logical.specs.declared.elapsed_timer.ElapsedTimerState.{ElapsedTimerState}
use Rattle.logical.specs.declared.timer.TimerOutput.{TimerOutput}
use Rattle.logical.specs.Timer.{entry_time, elapsed_time, timer_output_left}
use Rattle.logical.specs.ElapsedTimer.{elapsed_timer_new, elapsed_timer_output, elapsed_timer_update}
use Rattle.logical.specs.HeldTimer.{held_timer_new, held_timer_output, held_timer_update}
use Rattle.logical.specs.PresentTimer.{present_timer_new, present_timer_output, present_timer_update}
use Rattle.logical.specs.Run.{run, TimedInput, at, marks, elapsed_times, held_timer_run, present_timer_run, elapsed_timer_run}

-- ---- one row
-- from one entry and one pre(u) `timer` gives what both timers give, but for the row on which u rises: there it gives t − t, and they give 0
pub timer_elapsed : (s : ElapsedTimerState) (t : Float) (u : Bool)
    → elapsed_timer_output s t u ≡ cond (u && not s.prev_u) (sub binary64 t t) (elapsed_time s.entry_time s.prev_u t u)
unfolding elapsed_timer_output entry_time elapsed_time seen_elapsed switch
timer_elapsed s t u = go u s.prev_u
  where
    go : (a b : Bool) → seen_elapsed (cond a (cond b s.entry_time (Some t)) None) t ≡ cond (a && not b) (sub binary64 t t) (cond (a && b) (seen_elapsed s.entry_time t) plus_zero)
    go true true = refl
    go true false = refl
    go false b = refl

-- so at a finite time there is no difference
pub finite_elapsed : (s : ElapsedTimerState) (t : Float) (u : Bool) → T (finite t) → elapsed_timer_output s t u ≡ elapsed_time s.entry_time s.prev_u t u
unfolding elapsed_time switch
finite_elapsed s t u f = rw (timer_elapsed s t u, self_gap t f) (go u s.prev_u)
  where
    go : (a b : Bool) → cond (a && not b) plus_zero (elapsed_time s.entry_time b t a) ≡ elapsed_time s.entry_time b t a
    go true true = refl
    go true false = refl
    go false b = refl

-- a state with no entry, whatever else stands in it, has 0 elapsed seconds: a forged one too, with u true here and on the row before
pub no_entry : (pre_u u : Bool) (t : Float) → elapsed_time None pre_u t u ≡ plus_zero
unfolding elapsed_time seen_elapsed switch
no_entry pre_u u t = go (u && pre_u)
  where
    go : (b : Bool) → cond b plus_zero plus_zero ≡ plus_zero
    go true = refl
    go false = refl

-- ---- lists of rows
map_run : {S R B C : Type 0} (f : B → C) (answer : S → R → B) (next : S → R → S) (s : S) (rows : List R) → map f (run answer next s rows) ≡ run (λ t x. f (answer t x)) next s rows
unfolding run
map_run f answer next s [] = refl
map_run f answer next s (x ∷ rows) = ap (λ l. f (answer s x) ∷ l) (map_run f answer next (next s x) rows)

-- the times of all rows are finite
abbrev pub all_finite : List TimedInput → Bool
all_finite [] = true
all_finite (x ∷ rows) = finite x.time && all_finite rows

-- any block that works its elapsed time from its entry and pre(u), and moves both on as the timers do, gives over rows of finite times what `timer` gives
module _ {S : Type 0} (elapsed : S → TimedInput → Float) (next : S → TimedInput → S) (entry : S → Option Float) (pre_u : S → Bool)
    (elapsed_is : (s : S) (x : TimedInput) → elapsed s x ≡ elapsed_time (entry s) (pre_u s) x.time x.u)
    (entry_next : (s : S) (x : TimedInput) → entry (next s x) ≡ entry_time (entry s) (pre_u s) x.time x.u) (pre_next : (s : S) (x : TimedInput) → pre_u (next s x) ≡ x.u) where
  as_timer : (s : S) (rows : List TimedInput) → T (all_finite rows)
      → run elapsed next s rows
      ≡ run (λ e x. elapsed_timer_output e x.time x.u) (λ e x. elapsed_timer_update e x.time x.u) (record { entry_time = entry s; prev_u = pre_u s }) rows
  unfolding run elapsed_timer_update
  as_timer s [] f = refl
  as_timer s (x ∷ rows) f =
      ap₂ (λ a l. a ∷ l) (elapsed_is s x ∙ sym (finite_elapsed (record { entry_time = entry s; prev_u = pre_u s }) x.time x.u (and_l (finite x.time) (all_finite rows) f)))
      (as_timer (next s x) rows (and_r (finite x.time) (all_finite rows) f)
      ∙ ap (λ (e : ElapsedTimerState). run (λ e y. elapsed_timer_output e y.time y.u) (λ e y. elapsed_timer_update e y.time y.u) e rows)
      (λ i. record { entry_time = entry_next s x i; prev_u = pre_next s x i }))

-- both timers, whatever their threshold: over every list of rows with finite times their elapsed times are those of `timer`
pub held_elapsed : (threshold : Float) (rows : List TimedInput) → T (all_finite rows) → elapsed_times (held_timer_run threshold rows) ≡ elapsed_timer_run rows
unfolding held_timer_run elapsed_timer_run elapsed_timer_new held_timer_new
held_elapsed threshold rows f =
    map_run (λ y. y.elapsed) (λ s x. held_timer_output s x.time x.u) (λ s x. held_timer_update s x.time x.u) (held_timer_new threshold) rows
    ∙ as_timer (λ s x. (held_timer_output s x.time x.u).elapsed) (λ s x. held_timer_update s x.time x.u) (λ s. s.entry_time) (λ s. s.prev_u)
    (λ s x. unfold held_timer_output in refl) (λ s x. unfold held_timer_update in refl) (λ s x. unfold held_timer_update in refl) (held_timer_new threshold) rows f

pub present_elapsed : (threshold : Float) (rows : List TimedInput) → T (all_finite rows) → elapsed_times (present_timer_run threshold rows) ≡ elapsed_timer_run rows
unfolding present_timer_run elapsed_timer_run elapsed_timer_new present_timer_new
present_elapsed threshold rows f =
    map_run (λ y. y.elapsed) (λ s x. present_timer_output s x.time x.u) (λ s x. present_timer_update s x.time x.u) (present_timer_new threshold) rows
    ∙ as_timer (λ s x. (present_timer_output s x.time x.u).elapsed) (λ s x. present_timer_update s x.time x.u) (λ s. s.entry_time) (λ s. s.prev_u)
    (λ s x. unfold present_timer_output in refl) (λ s x. unfold present_timer_update in refl) (λ s x. unfold present_timer_update in refl) (present_timer_new threshold) rows f

-- where they part: u true on a first row at +∞, which no accepted row has
abbrev pub endless : List TimedInput
endless = record { time = inf false; u = true } ∷ []

pub elapsed_parts : (elapsed_timer_run endless ≡ nan ∷ []) × ((elapsed_times (held_timer_run (whole 300) endless) ≡ plus_zero ∷ []) × (elapsed_times (present_timer_run (whole 300) endless) ≡ plus_zero ∷ []))
unfolding elapsed_timer_run elapsed_timer_new elapsed_timer_output held_timer_run held_timer_new held_timer_output present_timer_run present_timer_new present_timer_output run entry_time elapsed_time seen_elapsed switch sub
elapsed_parts = (refl, (refl, refl))

-- ---- what is left, with tenths of a second. `left` is worked from two differences of times and the mark from a third, each rounded, so a row that comes just when the
-- time is up by the one may be a rounding before or after it by the other. In whole seconds nothing is rounded (past, proofs/ElapsedLaws.antt)
abbrev tenths : ℕ → Float
tenths n = round binary64 false n 10

-- what is left at the second row
abbrev left_then : List TimerOutput → Float
left_then [] = plus_zero
left_then (x ∷ []) = plus_zero
left_then (x ∷ (y ∷ l)) = timer_output_left y (whole 300)

-- on since 0.2 s. At 0.6 s 299.6 s are left; at 300.2 s, which is 299.59999999999997 s later, the timer has passed
abbrev pub passes_early : List TimedInput
passes_early = at 2 10 true ∷ at 6 10 true ∷ at 3002 10 true ∷ []

pub left_early :
    (marks (held_timer_run (whole 300) passes_early) ≡ false ∷ false ∷ true ∷ [])
    × ((eq (left_then (held_timer_run (whole 300) passes_early)) (tenths 2996) ≡ true) × (le (tenths 2996) (sub binary64 (tenths 3002) (tenths 6)) ≡ false))
unfolding held_timer_run held_timer_new held_timer_output held_timer_update run entry_time elapsed_time timer_output_left switch greater seen_elapsed lt eq le is_nan sub round of_bits
left_early = (refl, (refl, refl))

-- on since 212.3 s. At 212.4 s 299.9 s are left; at 512.3 s, which is 299.9 s later, the timer has not passed
abbrev pub passes_late : List TimedInput
passes_late = at 2123 10 true ∷ at 2124 10 true ∷ at 5123 10 true ∷ []

pub left_late :
    (marks (held_timer_run (whole 300) passes_late) ≡ false ∷ false ∷ false ∷ [])
    × ((eq (left_then (held_timer_run (whole 300) passes_late)) (tenths 2999) ≡ true) × (le (tenths 2999) (sub binary64 (tenths 5123) (tenths 2124)) ≡ true))
unfolding held_timer_run held_timer_new held_timer_output held_timer_update run entry_time elapsed_time timer_output_left switch greater seen_elapsed lt eq le is_nan sub round of_bits
left_late = (refl, (refl, refl))
