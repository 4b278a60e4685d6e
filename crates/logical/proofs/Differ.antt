-- Where blocks that are easily taken for one another differ: two timers, two delays, a sum of gaps and a difference of times, set and clear. Assumes nothing.
use mathlib.Core.Path.{◌≡◌, refl}
use mathlib.Core.Bool.{Bool, true, false}
use mathlib.Core.List.{List, [], ◌∷◌}
use lib.Ieee.{Float, round, of_bits, sub, add, le, is_nan}
use Rattle.reals.specs.Seen.{seen_elapsed, seen_gap}
use Rattle.reals.specs.Switch.{switch}
use Rattle.reals.specs.Order.{greater}
use Rattle.reals.specs.Constants.{whole}
use Rattle.logical.specs.declared.latch.LatchState.{LatchState}
use Rattle.logical.specs.Run.{run, TimedInput, at, marks, held_timer_run, present_timer_run, true_false_hold_run, true_delay_run, true_delay_on_init_run}
use Rattle.logical.specs.Latch.{latch_output}
use Rattle.logical.specs.Timer.{entry_time, elapsed_time}
use Rattle.logical.specs.HeldTimer.{held_timer_new, held_timer_output, held_timer_update}
use Rattle.logical.specs.PresentTimer.{present_timer_new, present_timer_output, present_timer_update}
use Rattle.logical.specs.TrueFalseHold.{true_false_hold_new, true_false_hold_required, true_false_hold_output_and_timer, true_false_hold_output, true_false_hold_update}
use Rattle.logical.specs.TrueDelay.{true_delay_new, true_delay_next_timer, true_delay_output, true_delay_update}
use Rattle.logical.specs.TrueDelayOnInit.{true_delay_on_init_new, true_delay_on_init_output, true_delay_on_init_update}

-- the input stays true while the time falls from 300 to 200 s
abbrev pub while_time_falls : List TimedInput
while_time_falls = at 0 1 true ∷ at 300 1 true ∷ at 200 1 true ∷ []

-- on the last row the held timer keeps the pass of 300 s, and the present timer has none
pub timers_differ : (marks (held_timer_run (whole 300) while_time_falls) ≡ false ∷ true ∷ true ∷ []) × (marks (present_timer_run (whole 300) while_time_falls) ≡ false ∷ true ∷ false ∷ [])
unfolding held_timer_run held_timer_new held_timer_output held_timer_update present_timer_run present_timer_new present_timer_output present_timer_update run entry_time elapsed_time switch seen_elapsed le sub round of_bits
timers_differ = (refl, refl)

-- on a first row with a true input, whatever its time and the delay: the economizer's delay is true at once, and that of the relief group waits
pub delays_differ_on_row_0 : (t delay : Float) → (true_delay_output true_delay_new t true delay ≡ true) × (true_delay_on_init_output (true_delay_on_init_new delay) t true ≡ false)
unfolding true_delay_output true_delay_new true_delay_on_init_output true_delay_on_init_new
delays_differ_on_row_0 t delay = (refl, refl)

-- the input u at 0.3, 1.1 and 600.3 s. The two gaps, each rounded, add up to less than 600 s; 600.3 − 0.3, rounded, is 600 s
abbrev pub short_gaps : Bool → Bool → List TimedInput
short_gaps first later = at 3 10 first ∷ at 11 10 later ∷ at 6003 10 later ∷ []

-- after a row with a false input, the economizer's delay adds the gaps, and that of the relief group takes the difference
pub delays_measure_differently :
    (true_delay_run (whole 600) (at 0 1 false ∷ short_gaps true true) ≡ false ∷ false ∷ false ∷ false ∷ [])
    × (true_delay_on_init_run (whole 600) (at 0 1 false ∷ short_gaps true true) ≡ false ∷ false ∷ false ∷ true ∷ [])
unfolding true_delay_run true_delay_new true_delay_output true_delay_update true_delay_next_timer true_delay_on_init_run true_delay_on_init_new true_delay_on_init_output true_delay_on_init_update run entry_time seen_elapsed seen_gap greater is_nan switch le add sub round of_bits
delays_measure_differently = (refl, refl)

-- the hold adds the gaps: an input that turns false stays held
pub hold_adds_gaps : (true_false_hold_run (whole 600) (whole 600) (short_gaps true false) ≡ true ∷ true ∷ true ∷ [])
unfolding true_false_hold_run true_false_hold_new true_false_hold_output true_false_hold_output_and_timer true_false_hold_update true_false_hold_required run switch seen_gap greater is_nan le add sub round of_bits
hold_adds_gaps = refl

-- clear wins over set
pub latch_clear_wins : (s : LatchState) (u : Bool) → latch_output s u true ≡ false
unfolding latch_output
latch_clear_wins s u = refl
