-- CDL.Logical.TrueFalseHold: an output that has changed is held for a duration. `TrueFalseHoldState` of freeze_protection.rs, and, with 600 s both
-- ways, of economizer_controller.rs. Both measure the duration by the gaps between rows, added in order, and not by a difference of two times.
use Rattle.std.specs.Prelude.{Bool, false, not, ◌&&◌, ◌||◌, Float, None, Some, is_none}
use Rattle.std.specs.Bool.{beq}
use Rattle.std.specs.Float.{binary64}
use Rattle.std.specs.Float.Ieee.{add, le}
use Rattle.reals.specs.Constants.{plus_zero}
use Rattle.reals.specs.Order.{greater}
use Rattle.reals.specs.Seen.{seen_gap}
use Rattle.reals.specs.Switch.{switch}
use Rattle.logical.specs.declared.true_false_hold.TrueFalseHoldState.{TrueFalseHoldState}
use Rattle.logical.specs.declared.true_false_hold.TrueFalseHoldOutput.{TrueFalseHoldOutput}

-- no row seen, with trueHoldDuration and falseHoldDuration
unfoldable pub true_false_hold_new : Float → Float → TrueFalseHoldState
true_false_hold_new trueFor falseFor = record { held = false; timer = plus_zero; prev_t = None; true_hold_duration = trueFor; false_hold_duration = falseFor }

-- how long the output must have stood before it may change: trueHoldDuration where it is true, falseHoldDuration where it is false, below 0 as 0
unfoldable pub true_false_hold_required : TrueFalseHoldState → Float
true_false_hold_required s = greater (switch s.held s.true_hold_duration s.false_hold_duration) plus_zero

-- The first row takes the input; later the output changes where the input differs from it and the timer has reached the required time.
-- The timer starts anew at a change.
unfoldable pub true_false_hold_output_and_timer : TrueFalseHoldState → Float → Bool → TrueFalseHoldOutput
true_false_hold_output_and_timer s t u =
    let timer = add binary64 s.timer (seen_gap s.prev_t t) in
    let changes = is_none s.prev_t || (not (beq u s.held) && le (true_false_hold_required s) timer) in
    record { y = switch changes u s.held; timer = switch changes plus_zero timer }

-- the output alone
unfoldable pub true_false_hold_output : TrueFalseHoldState → Float → Bool → Bool
true_false_hold_output s t u = (true_false_hold_output_and_timer s t u).y

-- the output and the timer are kept, with the time of this row
unfoldable pub true_false_hold_update : TrueFalseHoldState → Float → Bool → TrueFalseHoldState
true_false_hold_update s t u =
    let next = true_false_hold_output_and_timer s t u in
    record { held = next.y; timer = next.timer; prev_t = Some t; true_hold_duration = s.true_hold_duration; false_hold_duration = s.false_hold_duration }
