-- The theorem over whole lists for a sequence whose rows refusals 1, 2 and 3 judge: it is enough that over accepted rows the value is the one read off the past,
-- and that the state moves on with the past. Assumes nothing.
use Rattle.std.specs.Prelude.{Option, Ok, Err}
use mathlib.Core.Path.{◌≡◌, refl, ap}
use mathlib.Core.Bool.{Bool}
use mathlib.Core.List.{List, [], ◌∷◌}
use lib.Dec.{T}
use lib.Ieee.{Float}
use lib.Ieee.Scale.{finite}
use Rattle.refusals.specs.Refusals.{Verdict}
use Rattle.refusals.specs.Refusals.{judge}
use Rattle.logical.specs.Run.{run}
use Rattle.past.specs.Acceptance.{last_time, verdict_after}
use Rattle.past.specs.Stepped.{in_order}
use Rattle.past.specs.Whole.{Told, Taken, told_by, next_by, state_after, accepted, read_all}
use Rattle.past.proofs.Judged.{judged_in_order}
use Rattle.past.proofs.Whole.{good_accepted, run_reads, state_is}

-- a value, and a state, count only where the row is accepted
pub told_where_accepted : {Y : Type 0} (v : Verdict) (a b : Y) → (v ≡ Ok tt → a ≡ b) → told_by v a ≡ told_by v b
told_where_accepted (Ok tt) a b f = ap Taken (f refl)
told_where_accepted (Err r) a b f = refl

next_where_accepted : {S : Type 0} (v : Verdict) (a b old : S) → (v ≡ Ok tt → a ≡ b) → next_by v a old ≡ next_by v b old
next_where_accepted (Ok tt) a b old f = f refl
next_where_accepted (Err r) a b old f = refl

-- what a run from a fresh state tells at every place of a list; the state that it hands to the row after the rows l, the newest first; and the value of that row, if
-- it is accepted
pub record SequenceReads {S R Y : Type 0} (verdict : List R → R → Verdict) (answer : S → R → Told Y) (next : S → R → S) (fresh : S) (state_of : List R → S)
    (value : S → R → Y) (read : List R → Y) : Type 0 where
  pub runs : (rows : List R) → run answer next fresh rows ≡ read_all verdict read [] rows
  pub states : (l : List R) → state_after next fresh l ≡ state_of (accepted verdict l)
  pub reads : (x : R) (l : List R) → verdict (accepted verdict l) x ≡ Ok tt → value (state_after next fresh l) x ≡ read (x ∷ accepted verdict l)

module _ {R : Type 0} (time : R → Float) (all_finite : R → Bool) (time_finite : (x : R) → T (all_finite x) → T (finite (time x))) where
  -- an accepted row keeps the times in order
  pub in_order_lem : (x : R) (h : List R) → T (in_order time h) → verdict_after time all_finite h x ≡ Ok tt → T (in_order time (x ∷ h))
  unfolding verdict_after
  in_order_lem x h o e = judged_in_order time all_finite time_finite x h o e

  -- so the accepted rows of any list have theirs in order
  pub accepted_in_order : (l : List R) → T (in_order time (accepted (verdict_after time all_finite) l))
  accepted_in_order = good_accepted (verdict_after time all_finite) (in_order time) tt in_order_lem

  -- `last` is the last accepted time that a state keeps; `value` is what an accepted row tells, and `after` the state that it leaves
  module _ {S Y : Type 0} (last : S → Option Float) (value : S → R → Y) (after : S → R → S) where
    abbrev verdict_by : S → R → Verdict
    verdict_by s x = judge (all_finite x) (time x) (last s)

    -- `answer` and `next` are the sequence's own: an accepted row tells its value and moves the state, a refused one tells the refusal and moves nothing
    module _ (answer : S → R → Told Y) (next : S → R → S)
        (answer_is : (s : S) (x : R) → answer s x ≡ told_by (verdict_by s x) (value s x))
        (next_is : (s : S) (x : R) → next s x ≡ next_by (verdict_by s x) (after s x) s)
        (fresh : S) (state_of : List R → S) (read : List R → Y)
        (fresh_is : fresh ≡ state_of [])
        (last_is_lem : (h : List R) → last (state_of h) ≡ last_time time h)
        (values : (x : R) (h : List R) → T (in_order time (x ∷ h)) → value (state_of h) x ≡ read (x ∷ h))
        (moves : (x : R) (h : List R) → T (in_order time (x ∷ h)) → after (state_of h) x ≡ state_of (x ∷ h)) where
      verdict_is : (x : R) (h : List R) → verdict_by (state_of h) x ≡ verdict_after time all_finite h x
      unfolding verdict_after
      verdict_is x h = rw (last_is_lem h)

      answers : (x : R) (h : List R) → T (in_order time h) → answer (state_of h) x ≡ told_by (verdict_after time all_finite h x) (read (x ∷ h))
      answers x h o =
          rw (answer_is (state_of h) x, verdict_is x h)
          (told_where_accepted (verdict_after time all_finite h x) (value (state_of h) x) (read (x ∷ h)) (λ e. values x h (in_order_lem x h o e)))

      moved : (x : R) (h : List R) → T (in_order time h) → next (state_of h) x ≡ next_by (verdict_after time all_finite h x) (state_of (x ∷ h)) (state_of h)
      moved x h o =
          rw (next_is (state_of h) x, verdict_is x h)
          (next_where_accepted (verdict_after time all_finite h x) (after (state_of h) x) (state_of (x ∷ h)) (state_of h) (λ e. moves x h (in_order_lem x h o e)))

      states_lem : (l : List R) → state_after next fresh l ≡ state_of (accepted (verdict_after time all_finite) l)
      states_lem l = rw fresh_is (state_is (verdict_after time all_finite) (in_order time) read answer next state_of tt in_order_lem answers moved l)

      pub sequence_reads : SequenceReads (verdict_after time all_finite) answer next fresh state_of value read
      sequence_reads = record {
        runs = λ rows. rw fresh_is (run_reads (verdict_after time all_finite) (in_order time) read answer next state_of tt in_order_lem answers moved rows);
        states = states_lem;
        reads = λ x l e. rw (states_lem l) (values x (accepted (verdict_after time all_finite) l) (in_order_lem x (accepted (verdict_after time all_finite) l) (accepted_in_order l) e));
      }
