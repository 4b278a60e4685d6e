-- A run over a list of rows; and the three timers, the hold and both delays on their own, run from a fresh state on.
use Rattle.std.specs.Prelude.{ℕ, Bool, false, List, [], ◌∷◌, map, Float}
use Rattle.std.specs.Float.{binary64}
use Rattle.std.specs.Float.Ieee.{round}
use Rattle.logical.specs.declared.timer.TimerOutput.{TimerOutput}
use Rattle.logical.specs.ElapsedTimer.{elapsed_timer_new, elapsed_timer_output, elapsed_timer_update}
use Rattle.logical.specs.HeldTimer.{held_timer_new, held_timer_output, held_timer_update}
use Rattle.logical.specs.PresentTimer.{present_timer_new, present_timer_output, present_timer_update}
use Rattle.logical.specs.TrueFalseHold.{true_false_hold_new, true_false_hold_output, true_false_hold_update}
use Rattle.logical.specs.TrueDelay.{true_delay_new, true_delay_output, true_delay_update}
use Rattle.logical.specs.TrueDelayOnInit.{true_delay_on_init_new, true_delay_on_init_output, true_delay_on_init_update}

-- a run of a block or a sequence, its answers in order: the first row gets the state s, each later row exactly what the row before returned
unfoldable pub run : {S R B : Type 0} → (S → R → B) → (S → R → S) → S → List R → List B
run answer next s [] = []
run answer next s (x ∷ rows) = answer s x ∷ run answer next (next s x) rows

-- a row of a timer, a hold or a delay
pub record TimedInput : Type 0 where
  pub time : Float
  pub u : Bool

-- input u at n / d seconds, rounded once
abbrev pub at : ℕ → ℕ → Bool → TimedInput
at n d u = record { time = round binary64 false n d; u = u }

-- the answers of the two timers with this threshold
unfoldable pub held_timer_run : Float → List TimedInput → List TimerOutput
held_timer_run threshold = run (λ s x. held_timer_output s x.time x.u) (λ s x. held_timer_update s x.time x.u) (held_timer_new threshold)

unfoldable pub present_timer_run : Float → List TimedInput → List TimerOutput
present_timer_run threshold = run (λ s x. present_timer_output s x.time x.u) (λ s x. present_timer_update s x.time x.u) (present_timer_new threshold)

-- of such answers the passed marks, and the elapsed times
abbrev pub marks : List TimerOutput → List Bool
marks = map (λ y. y.passed)

abbrev pub elapsed_times : List TimerOutput → List Float
elapsed_times = map (λ y. y.elapsed)

-- the elapsed times that `timer` of cdl_recurrences.rs gives
unfoldable pub elapsed_timer_run : List TimedInput → List Float
elapsed_timer_run = run (λ s x. elapsed_timer_output s x.time x.u) (λ s x. elapsed_timer_update s x.time x.u) elapsed_timer_new

-- the outputs of the hold with these durations, and of the two delays with this delay
unfoldable pub true_false_hold_run : Float → Float → List TimedInput → List Bool
true_false_hold_run trueFor falseFor = run (λ s x. true_false_hold_output s x.time x.u) (λ s x. true_false_hold_update s x.time x.u) (true_false_hold_new trueFor falseFor)

unfoldable pub true_delay_run : Float → List TimedInput → List Bool
true_delay_run delay = run (λ s x. true_delay_output s x.time x.u delay) (λ s x. true_delay_update s x.time x.u delay) true_delay_new

unfoldable pub true_delay_on_init_run : Float → List TimedInput → List Bool
true_delay_on_init_run delay = run (λ s x. true_delay_on_init_output s x.time x.u) (λ s x. true_delay_on_init_update s x.time x.u) (true_delay_on_init_new delay)
