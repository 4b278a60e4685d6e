-- CDL.Logical.TrueDelay with delayOnInit=true: y becomes true when u has been true for delayTime, the first row's u too. `TrueDelayState` of
-- relief_fan_group.rs; unlike the model it never passes on the row where u rises, even with a delay of 0.
use Rattle.std.specs.Prelude.{Bool, false, not, ◌&&◌, Float, None, is_none}
use Rattle.std.specs.Float.Ieee.{le}
use Rattle.reals.specs.Seen.{seen_elapsed}
use Rattle.logical.specs.declared.true_delay_on_init.TrueDelayOnInitState.{TrueDelayOnInitState}
use Rattle.logical.specs.Timer.{entry_time}

-- no entry, and u false before the first row
unfoldable pub true_delay_on_init_new : Float → TrueDelayOnInitState
true_delay_on_init_new delayTime = record { delay_time = delayTime; entry_time = None; previous_u = false }

-- u is true here, it became true at an earlier row, and the time since then is the delay or more
unfoldable pub true_delay_on_init_output : TrueDelayOnInitState → Float → Bool → Bool
true_delay_on_init_output s t u = u && not (is_none s.entry_time) && le s.delay_time (seen_elapsed s.entry_time t)

-- the entry time of this row; u becomes pre(u)
unfoldable pub true_delay_on_init_update : TrueDelayOnInitState → Float → Bool → TrueDelayOnInitState
true_delay_on_init_update s t u = record { delay_time = s.delay_time; entry_time = entry_time s.entry_time s.previous_u t u; previous_u = u }
