-- Demand 3 for freeze rows: for every list of rows from either start, refused ones included, and every place in it, the row's answer is the refusal that the
-- list alone tells, or else its stage is the one that is read off the accepted rows up to there. Assumes nothing.
use Rattle.std.specs.Prelude.{Ok, Err}
use Prim.Native.Nat.{ℕ, suc, ◌<◌}
use mathlib.Core.Path.{◌≡◌, refl, ap}
use mathlib.Core.Bool.{Bool, true, false, ◌&&◌}
use mathlib.Core.List.{List, [], ◌∷◌, reverse}
use lib.Dec.{T}
use lib.ListN.{length, get_or, take}
use lib.Ieee.Scale.{finite}
use Rattle.refusals.specs.Refusals.{Verdict}
use Rattle.past.specs.Acceptance.{last_time, verdict_after}
use Rattle.past.specs.Stepped.{in_order}
use Rattle.logical.specs.Run.{run}
use Rattle.past.specs.Whole.{Told, told_by, next_by, state_after, accepted, read_all}
use Rattle.past.proofs.Whole.{read_newest, read_at_lem}
use Rattle.past.proofs.Sequence.{SequenceReads, sequence_reads}
use Rattle.freeze_protection.specs.declared.types.FreezeRow.{FreezeRow}
use Rattle.freeze_protection.specs.declared.types.FreezeState.{FreezeState}
use Rattle.freeze_protection.specs.Verdict.{numbers_finite, freeze_verdict}
use Rattle.freeze_protection.specs.Signals.{freeze_signals}
use Rattle.freeze_protection.specs.Commands.{freeze_commands}
use Rattle.freeze_protection.specs.Step.{freeze_start, freeze_fresh, freeze_next, freeze_row, step_by}
use Rattle.freeze_protection.specs.Reading.{Past, time_of_row, stage, stage_from, verdict_of}
use Rattle.freeze_protection.specs.Told.{stage_told, freeze_told, freeze_returned}
use Rattle.freeze_protection.specs.Left.{freeze_left, timers_of, timers_told, timers_from, timers_read}
use Rattle.freeze_protection.proofs.Blocks.{state_of, start_is, hour_threshold, signals_read, next_reads}

-- ---- a row's answer tells its verdict and its stage, and its state moves by its verdict
module _ (state : FreezeState) (row : FreezeRow) where
  told_is : freeze_told state row ≡ told_by (freeze_verdict state row) (freeze_signals state row).stage
  unfolding freeze_row step_by freeze_commands
  told_is = go (freeze_verdict state row)
    where
      go : (v : Verdict) → stage_told (step_by v state row).answer ≡ told_by v (freeze_signals state row).stage
      go (Ok tt) = refl
      go (Err r) = refl

  pub returned_is : freeze_returned state row ≡ next_by (freeze_verdict state row) (freeze_next state row (freeze_signals state row)) state
  unfolding freeze_row step_by
  returned_is = go (freeze_verdict state row)
    where
      go : (v : Verdict) → (step_by v state row).state ≡ next_by v (freeze_next state row (freeze_signals state row)) state
      go (Ok tt) = refl
      go (Err r) = refl

-- ---- one row further, from the start that k names: stage 2 keeps to its hour, or not
module _ (k : Bool) (x : FreezeRow) (h : Past) (o : T (in_order time_of_row (x ∷ h))) where
  reads : (freeze_signals (state_of k h) x).stage ≡ stage_from k (x ∷ h)
  reads = rw (signals_read k x h o)

  moves : freeze_next (state_of k h) x (freeze_signals (state_of k h) x) ≡ state_of k (x ∷ h)
  moves = rw (signals_read k x h o) (next_reads k x h o)

  -- the timers too: their elapsed times, and what is left
  timers_read_lem : timers_of (state_of k h) (freeze_signals (state_of k h) x) ≡ timers_from k (x ∷ h)
  unfolding timers_from freeze_left
  timers_read_lem = rw (signals_read k x h o, hour_threshold k h)

-- ---- whole lists
pub time_finite : (x : FreezeRow) → T (numbers_finite x) → T (finite x.time)
unfolding numbers_finite
time_finite x t = first (finite x.time) _ _ _ _ _ _ _ _ _ t
  where
    first : (a b c d e f g h i j : Bool) → T (a && b && c && d && e && f && g && h && i && j) → T a
    first true b c d e f g h i j t = tt
    first false b c d e f g h i j t = t

module _ (k : Bool) where
  stage_runs : SequenceReads verdict_of freeze_told freeze_returned (freeze_start k) (state_of k) (λ s x. (freeze_signals s x).stage) (stage_from k)
  unfolding freeze_verdict
  stage_runs =
      sequence_reads time_of_row numbers_finite time_finite (λ s. s.last) (λ s x. (freeze_signals s x).stage) (λ s x. freeze_next s x (freeze_signals s x))
      freeze_told freeze_returned told_is returned_is (freeze_start k) (state_of k) (stage_from k) (start_is k) (λ h. refl) (reads k) (moves k)

-- for every list of rows, from either start
pub freeze_demand_3_from : (keeps_hour : Bool) (rows : List FreezeRow) → run freeze_told freeze_returned (freeze_start keeps_hour) rows ≡ read_all verdict_of (stage_from keeps_hour) [] rows
freeze_demand_3_from k = (stage_runs k).runs

-- the last accepted time that the state after the rows l keeps, refused ones too, and the verdict on a row, are those that the list tells
pub last_reads : (keeps_hour : Bool) (l : List FreezeRow) → (state_after freeze_returned (freeze_start keeps_hour) l).last ≡ last_time time_of_row (accepted verdict_of l)
last_reads k l = ap (λ (s : FreezeState). s.last) ((stage_runs k).states l)

pub verdict_reads : (keeps_hour : Bool) (x : FreezeRow) (l : List FreezeRow) → freeze_verdict (state_after freeze_returned (freeze_start keeps_hour) l) x ≡ verdict_of (accepted verdict_of l) x
unfolding freeze_verdict verdict_after
verdict_reads k x l = rw (last_reads k l)

-- the stage among the signals of an accepted row, after the rows l, refused ones too, is the one read off the accepted rows
pub stage_reads : (keeps_hour : Bool) (x : FreezeRow) (l : List FreezeRow) → verdict_of (accepted verdict_of l) x ≡ Ok tt
    → (freeze_signals (state_after freeze_returned (freeze_start keeps_hour) l) x).stage ≡ stage_from keeps_hour (x ∷ accepted verdict_of l)
stage_reads k = (stage_runs k).reads

-- from the start of the Rust
pub freeze_demand_3 : (rows : List FreezeRow) → run freeze_told freeze_returned freeze_fresh rows ≡ read_all verdict_of stage [] rows
unfolding freeze_fresh
freeze_demand_3 = freeze_demand_3_from false

-- and at every place of it: place i tells the refusal that fits row i, or what is read off the accepted ones of rows 0 to i
pub freeze_demand_3_from_at : (keeps_hour : Bool) (other : Told ℕ) (rows : List FreezeRow) (i : ℕ) → i < length rows
    → get_or (run freeze_told freeze_returned (freeze_start keeps_hour) rows) i other ≡ read_newest verdict_of (stage_from keeps_hour) other (reverse (take (suc i) rows))
freeze_demand_3_from_at k other rows i l = rw (freeze_demand_3_from k rows) (read_at_lem verdict_of (stage_from k) other [] rows i l)

pub freeze_demand_3_at : (other : Told ℕ) (rows : List FreezeRow) (i : ℕ) → i < length rows
    → get_or (run freeze_told freeze_returned freeze_fresh rows) i other ≡ read_newest verdict_of stage other (reverse (take (suc i) rows))
unfolding freeze_fresh
freeze_demand_3_at = freeze_demand_3_from_at false

-- what a display shows of the timers, for every list of rows: the marks, the elapsed times and what is left are those read off the accepted rows
pub freeze_timers_from : (keeps_hour : Bool) (rows : List FreezeRow) → run timers_told freeze_returned (freeze_start keeps_hour) rows ≡ read_all verdict_of (timers_from keeps_hour) [] rows
unfolding freeze_verdict
freeze_timers_from k =
    (sequence_reads time_of_row numbers_finite time_finite (λ s. s.last) (λ s x. timers_of s (freeze_signals s x)) (λ s x. freeze_next s x (freeze_signals s x))
    timers_told freeze_returned (λ s x. refl) returned_is (freeze_start k) (state_of k) (timers_from k) (start_is k) (λ h. refl) (timers_read_lem k) (moves k)).runs

pub freeze_timers : (rows : List FreezeRow) → run timers_told freeze_returned freeze_fresh rows ≡ read_all verdict_of timers_read [] rows
unfolding freeze_fresh
freeze_timers = freeze_timers_from false
