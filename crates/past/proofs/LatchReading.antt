-- The edge, the latch and pre: rises, latched, and the row before. Assumes nothing.
use mathlib.Core.Path.{◌≡◌, refl, sym}
use mathlib.Core.Bool.{Bool, false}
use mathlib.Core.List.{List, [], ◌∷◌}
use Rattle.logical.specs.declared.edge.EdgeState.{EdgeState}
use Rattle.logical.specs.declared.latch.LatchState.{LatchState}
use Rattle.logical.specs.Edge.{edge_new, edge_output, edge_update}
use Rattle.logical.specs.Latch.{latch_new, latch_output, latch_update}
use Rattle.past.specs.Past.{rises, latched}
use Rattle.past.specs.Stepped.{stepped}
use Rattle.past.proofs.Laws.{rises_step, latched_step, latched_none}
use Rattle.past.proofs.Stepped.{stepped_is}

-- ---- the edge
module _ {A : Type 0} (u : List A → Bool) where
  abbrev pub edge_of : List A → EdgeState
  edge_of h = record { previous = u h }

  module _ (e : u [] ≡ false) where
    pub edge_new_lem : edge_new ≡ edge_of []
    unfolding edge_new
    edge_new_lem = rw e refl

    pub edge_output_lem : (x : A) (h : List A) → edge_output (edge_of h) (u (x ∷ h)) ≡ rises u (x ∷ h)
    unfolding edge_output
    edge_output_lem x h = sym (rises_step u e x h)

    pub edge_update_lem : (x : A) (h : List A) → edge_update (edge_of h) (u (x ∷ h)) ≡ edge_of (x ∷ h)
    unfolding edge_update
    edge_update_lem x h = refl

    pub edge_reads : (x : A) (h : List A) → edge_output (stepped edge_new (λ s p. edge_update s (u p)) h) (u (x ∷ h)) ≡ rises u (x ∷ h)
    edge_reads x h = rw (stepped_is edge_new (λ s p. edge_update s (u p)) edge_of edge_new_lem edge_update_lem h) (edge_output_lem x h)

-- ---- the latch
module _ {A : Type 0} (set clear : List A → Bool) where
  abbrev pub latch_of : List A → LatchState
  latch_of h = record { held = latched set clear h; prev_u = set h }

  module _ (e : set [] ≡ false) where
    pub latch_new_lem : latch_new ≡ latch_of []
    unfolding latch_new
    latch_new_lem = rw (latched_none {A = A} set clear, e) refl

    pub latch_output_lem : (x : A) (h : List A) → latch_output (latch_of h) (set (x ∷ h)) (clear (x ∷ h)) ≡ latched set clear (x ∷ h)
    unfolding latch_output
    latch_output_lem x h = sym (latched_step set clear e x h)

    pub latch_update_lem : (x : A) (h : List A) → latch_update (latch_of h) (set (x ∷ h)) (clear (x ∷ h)) ≡ latch_of (x ∷ h)
    unfolding latch_update
    latch_update_lem x h = rw (latch_output_lem x h)

    pub latch_reads : (x : A) (h : List A) → latch_output (stepped latch_new (λ s p. latch_update s (set p) (clear p)) h) (set (x ∷ h)) (clear (x ∷ h)) ≡ latched set clear (x ∷ h)
    latch_reads x h = rw (stepped_is latch_new (λ s p. latch_update s (set p) (clear p)) latch_of latch_new_lem latch_update_lem h) (latch_output_lem x h)
