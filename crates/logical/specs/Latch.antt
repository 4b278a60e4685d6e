-- CDL.Logical.Latch: y becomes true when u becomes true, stays true when u falls, and is false while clr is true.
use Rattle.std.specs.Prelude.{Bool, false, not, ◌&&◌, ◌||◌}
use Rattle.logical.specs.declared.latch.LatchState.{LatchState}

-- not held, and u false before the first row: `LatchState::default` of both files
unfoldable pub latch_new : LatchState
latch_new = record { held = false; prev_u = false }

-- u rises here, or y was true at the row before; and not where clr is true, whatever u does
unfoldable pub latch_output : LatchState → Bool → Bool → Bool
latch_output s u clear = not clear && ((u && not s.prev_u) || s.held)

-- y is kept; u becomes pre(u)
unfoldable pub latch_update : LatchState → Bool → Bool → LatchState
latch_update s u clear = record { held = latch_output s u clear; prev_u = u }
