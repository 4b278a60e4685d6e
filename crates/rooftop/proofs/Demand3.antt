-- Demand 3 for the joined sequence: for every list of joined rows from either start, refused ones included, and every place in it, the row's answer is the refusal that
-- the list alone tells, or else its stage, enable, delays, mean and pulses are those that are read off the accepted rows. Assumes nothing.
use Rattle.std.specs.Prelude.{Ok, Err}
use Prim.Native.Nat.{ℕ, suc, ◌<◌}
use mathlib.Core.Path.{◌≡◌, refl, ap, ◌∙◌}
use mathlib.Core.Bool.{Bool, false}
use mathlib.Core.List.{List, [], ◌∷◌, reverse}
use lib.Dec.{T}
use lib.ListN.{length, get_or, take}
use Rattle.refusals.specs.Refusals.{Verdict}
use Rattle.refusals.specs.Step.{stepped}
use Rattle.logical.specs.Run.{run}
use Rattle.past.specs.Past.{some, since_with, since, latched}
use Rattle.past.specs.Whole.{Told, told_by, state_after, accepted, read_all}
use Rattle.past.proofs.Whole.{all_accepted, none_accepted, one_more_accepted, accepted_all, state_is, run_reads, read_newest, read_at_lem}
use Rattle.economizer_controller.specs.declared.types.EconomizerSignals.{EconomizerSignals}
use Rattle.economizer_controller.specs.Step.{economizer_signals}
use Rattle.economizer_controller.specs.Reading.{economizer_reading}
use Rattle.economizer_controller.specs.Told.{reading_in}
use Rattle.economizer_controller.proofs.Demand3 as economizer_reads
use Rattle.freeze_protection.specs.Reading.{stage_by}
use Rattle.relief_fan_group.specs.declared.types.ReliefSignals.{ReliefSignals}
use Rattle.relief_fan_group.specs.Commands.{relief_commands}
use Rattle.relief_fan_group.specs.Reading.{relief_reading}
use Rattle.relief_fan_group.specs.Step.{signals_at}
use Rattle.relief_fan_group.specs.Told.{pulses_in}
use Rattle.relief_fan_group.proofs.Demand3 as relief_reads
use Rattle.rooftop.specs.declared.types.RooftopRow.{RooftopRow}
use Rattle.rooftop.specs.declared.types.RooftopState.{RooftopState}
use Rattle.rooftop.specs.Step.{rooftop_start, rooftop_fresh, economizer_handed, relief_handed, rooftop_commands, rooftop_next, rooftop_row}
use Rattle.rooftop.specs.Reading.{Past, verdict_of, RooftopReading, economizer_rows, relief_rows, rooftop_reading}
use Rattle.rooftop.specs.SideBySide.{wired, state_alone}
use Rattle.rooftop.specs.Told.{answer_by, rooftop_told_from, rooftop_told, rooftop_returned}
use Rattle.rooftop.proofs.SideBySide.{alone, good_of, economizer_takes, relief_takes, stage_here, verdict_reads, returned_reads}
use Rattle.rooftop.proofs.OwnFields.{own_stage, own_economizer_rows, own_relief_rows}

module _ (k : Bool) where
  start_is : rooftop_start k ≡ state_alone k (wired k [])
  unfolding rooftop_start wired state_after stage_by latched since since_with some
  start_is = refl

  -- ---- one row further
  module _ (x : RooftopRow) (h : Past) (a : T (all_accepted verdict_of h)) where
    abbrev here : RooftopState
    here = state_alone k (wired k h)

    abbrev economizer_signals_here : EconomizerSignals
    economizer_signals_here = economizer_signals here.economizer (economizer_handed here x)

    abbrev relief_signals_here : ReliefSignals
    relief_signals_here = signals_at here.relief (relief_handed here x)

    -- what an accepted row tells is what is read off the past with it
    module _ (e : verdict_of h x ≡ Ok tt) where
      with_it : T (all_accepted verdict_of (x ∷ h))
      with_it = one_more_accepted verdict_of x h a e

      economizer_here : reading_in economizer_signals_here ≡ economizer_reading (economizer_rows k (x ∷ h))
      unfolding wired
      economizer_here =
          let whole = (alone k h a).economizer in
          rw whole at (economizer_reads.signals_read (economizer_handed here x) (wired k h).economizer (rw whole (economizer_takes k h (alone k h a) x (good_of h a) e)))
          ∙ ap economizer_reading (own_economizer_rows k (x ∷ h) with_it)

      relief_here : pulses_in relief_signals_here.control.average relief_signals_here ≡ relief_reading (relief_rows k (x ∷ h))
      unfolding wired
      relief_here =
          let whole = (alone k h a).relief in
          rw whole at (relief_reads.signals_read (relief_handed here x) (wired k h).relief (rw whole (relief_takes k h (alone k h a) x (good_of h a) e)))
          ∙ ap relief_reading (own_relief_rows k (x ∷ h) with_it)

      reads_here : rooftop_told_from (Ok (rooftop_commands here x)) economizer_signals_here relief_signals_here ≡ Told.Taken (rooftop_reading k (x ∷ h))
      unfolding rooftop_reading wired relief_commands
      reads_here = λ i. Told.Taken
          (record { stage = (stage_here k h (alone k h a) x (good_of h a) e ∙ own_stage k (x ∷ h) with_it) i; economizer = economizer_here i; relief = relief_here i })

    answers : rooftop_told here x ≡ told_by (verdict_of h x) (rooftop_reading k (x ∷ h))
    unfolding rooftop_row
    answers =
        ap (λ (v : Verdict). rooftop_told_from (stepped v (rooftop_commands here x) (rooftop_next here x) here).answer economizer_signals_here relief_signals_here)
        (verdict_reads k x h a)
        ∙ go (verdict_of h x) reads_here
      where
        go : (v : Verdict) → (v ≡ Ok tt → rooftop_told_from (Ok (rooftop_commands here x)) economizer_signals_here relief_signals_here ≡ Told.Taken (rooftop_reading k (x ∷ h)))
            → rooftop_told_from (stepped v (rooftop_commands here x) (rooftop_next here x) here).answer economizer_signals_here relief_signals_here
            ≡ told_by v (rooftop_reading k (x ∷ h))
        go (Ok v) f = f refl
        go (Err r) f = refl

  -- ---- whole lists
  -- the joined state that a run hands to the row after the rows l, refused ones too, is that of each sequence by itself after the rows that it was handed
  pub side_by_side : (l : List RooftopRow) → state_after rooftop_returned (rooftop_start k) l ≡ state_alone k (wired k (accepted verdict_of l))
  side_by_side l =
      rw start_is
      (state_is verdict_of (all_accepted verdict_of) (rooftop_reading k) rooftop_told rooftop_returned (λ h. state_alone k (wired k h)) (none_accepted verdict_of)
      (one_more_accepted verdict_of) answers (returned_reads k) l)

  -- what a row x tells after them is the refusal that the list alone tells, or what is read off the accepted rows and it
  pub told_reads : (x : RooftopRow) (l : List RooftopRow)
      → rooftop_told (state_after rooftop_returned (rooftop_start k) l) x ≡ told_by (verdict_of (accepted verdict_of l) x) (rooftop_reading k (x ∷ accepted verdict_of l))
  told_reads x l = rw (side_by_side l) (answers x (accepted verdict_of l) (accepted_all verdict_of l))

  -- for every list of rows, from either start
  pub rooftop_demand_3_from : (rows : List RooftopRow) → run rooftop_told rooftop_returned (rooftop_start k) rows ≡ read_all verdict_of (rooftop_reading k) [] rows
  rooftop_demand_3_from rows =
      rw start_is
      (run_reads verdict_of (all_accepted verdict_of) (rooftop_reading k) rooftop_told rooftop_returned (λ h. state_alone k (wired k h)) (none_accepted verdict_of)
      (one_more_accepted verdict_of) answers (returned_reads k) rows)

  -- and at every place of it: place i tells the refusal that fits row i, or what is read off the accepted ones of rows 0 to i
  pub rooftop_demand_3_from_at : (other : Told RooftopReading) (rows : List RooftopRow) (i : ℕ) → i < length rows
      → get_or (run rooftop_told rooftop_returned (rooftop_start k) rows) i other ≡ read_newest verdict_of (rooftop_reading k) other (reverse (take (suc i) rows))
  rooftop_demand_3_from_at other rows i l = rw (rooftop_demand_3_from rows) (read_at_lem verdict_of (rooftop_reading k) other [] rows i l)

  -- the answer to a row x after the rows l: the refusal that the list alone tells, or what each sequence by itself commands at the row that it is handed
  pub answer_reads : (x : RooftopRow) (l : List RooftopRow)
      → (rooftop_row (state_after rooftop_returned (rooftop_start k) l) x).answer
      ≡ answer_by (verdict_of (accepted verdict_of l) x) (rooftop_commands (state_alone k (wired k (accepted verdict_of l))) x)
  unfolding rooftop_row
  answer_reads x l =
      rw (side_by_side l)
      (ap (λ (v : Verdict). (stepped v (rooftop_commands s x) (rooftop_next s x) s).answer) (verdict_reads k x (accepted verdict_of l) (accepted_all verdict_of l))
      ∙ go (verdict_of (accepted verdict_of l) x))
    where
      s : RooftopState
      s = state_alone k (wired k (accepted verdict_of l))

      go : (v : Verdict) → (stepped v (rooftop_commands s x) (rooftop_next s x) s).answer ≡ answer_by v (rooftop_commands s x)
      go (Ok v) = refl
      go (Err r) = refl

-- from the start with freeze protection as the published Rust starts it
pub rooftop_demand_3 : (rows : List RooftopRow) → run rooftop_told rooftop_returned rooftop_fresh rows ≡ read_all verdict_of (rooftop_reading false) [] rows
unfolding rooftop_fresh
rooftop_demand_3 = rooftop_demand_3_from false

pub rooftop_demand_3_at : (other : Told RooftopReading) (rows : List RooftopRow) (i : ℕ) → i < length rows
    → get_or (run rooftop_told rooftop_returned rooftop_fresh rows) i other ≡ read_newest verdict_of (rooftop_reading false) other (reverse (take (suc i) rows))
unfolding rooftop_fresh
rooftop_demand_3_at = rooftop_demand_3_from_at false
