-- CDL.Logical.Edge: y = edge(u), which is u and not pre(u).
use Rattle.std.specs.Prelude.{Bool, false, not, ◌&&◌}
use Rattle.logical.specs.declared.edge.EdgeState.{EdgeState}

-- pre(u) is false at the start: `EdgeState::default` of freeze_protection.rs
unfoldable pub edge_new : EdgeState
edge_new = record { previous = false }

-- u is true here and was false at the row before
unfoldable pub edge_output : EdgeState → Bool → Bool
edge_output s u = u && not s.previous

-- u becomes pre(u)
unfoldable pub edge_update : EdgeState → Bool → EdgeState
edge_update s u = record { previous = u }
