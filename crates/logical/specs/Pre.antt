-- CDL.Logical.Pre: y = pre(u), the input of the row before. A row is one step; the model's iteration of events within one time is left out.
use Rattle.std.specs.Prelude.{Bool}
use Rattle.logical.specs.declared.pre.PreState.{PreState}

-- pre(u) is y_start at the start
unfoldable pub pre_new : Bool → PreState
pre_new yStart = record { previous = yStart }

-- the input of the row before
unfoldable pub pre_output : PreState → Bool
pre_output s = s.previous

-- u becomes pre(u)
unfoldable pub pre_update : PreState → Bool → PreState
pre_update s u = record { previous = u }
