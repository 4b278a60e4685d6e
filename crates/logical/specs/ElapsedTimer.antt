-- CDL.Logical.Timer, its output y: y = if u then time − entryTime else 0. `timer` of cdl_recurrences.rs.
use Rattle.std.specs.Prelude.{Bool, false, Float, None}
use Rattle.reals.specs.Seen.{seen_elapsed}
use Rattle.logical.specs.declared.elapsed_timer.ElapsedTimerState.{ElapsedTimerState}
use Rattle.logical.specs.Timer.{entry_time}

-- no entry, and u false before the first row
unfoldable pub elapsed_timer_new : ElapsedTimerState
elapsed_timer_new = record { entry_time = None; prev_u = false }

-- time less the entry time of this row, so t − t where u rises; 0 where there is none
unfoldable pub elapsed_timer_output : ElapsedTimerState → Float → Bool → Float
elapsed_timer_output s t u = seen_elapsed (entry_time s.entry_time s.prev_u t u) t

-- the entry time of this row; u becomes pre(u)
unfoldable pub elapsed_timer_update : ElapsedTimerState → Float → Bool → ElapsedTimerState
elapsed_timer_update s t u = record { entry_time = entry_time s.entry_time s.prev_u t u; prev_u = u }
