-- What the timers share (CDL.Logical.Timer): entryTime, the time at which u became true, the time since then, and what is left.
use Rattle.std.specs.Prelude.{Bool, cond, ◌&&◌, Float, Option, None, Some}
use Rattle.std.specs.Float.{binary64}
use Rattle.std.specs.Float.Ieee.{sub}
use Rattle.reals.specs.Constants.{plus_zero}
use Rattle.reals.specs.Order.{greater}
use Rattle.reals.specs.Seen.{seen_elapsed}
use Rattle.reals.specs.Switch.{switch}
use Rattle.logical.specs.declared.timer.TimerOutput.{TimerOutput}

-- entryTime at a row with input u at t, from that of the row before and pre(u): t where u rises, kept while u stays true, none while u is false.
-- Both `TimerState` keep the number after a fall and do not read it again before the next rise.
unfoldable pub entry_time : Option Float → Bool → Float → Bool → Option Float
entry_time entry pre_u t u = cond u (cond pre_u entry (Some t)) None

-- time minus entryTime; 0 where u is false or has just risen: `y` in `TimerState::output` of freeze_protection.rs; relief_fan_group.rs
-- tests it only where it is a difference. A state with no entry while u stays true, which no run reaches, has 0
unfoldable pub elapsed_time : Option Float → Bool → Float → Bool → Float
elapsed_time entry pre_u t u = switch (u && pre_u) (seen_elapsed entry t) plus_zero

-- the seconds left until a timer with this threshold passes: the threshold less the elapsed time, not below 0; 0 once it has passed. While u is false that is
-- the threshold
unfoldable pub timer_output_left : TimerOutput → Float → Float
timer_output_left y threshold = switch y.passed plus_zero (greater (sub binary64 threshold y.elapsed) plus_zero)
