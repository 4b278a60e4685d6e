-- One direction of staging, up or down: its table, its pulse and its latch, and what a row does to the latch. All that is proved of both is proved here once.
-- Assumes nothing.
use Prim.Native.Nat.{ℕ, zero, suc, ◌<◌}
use native.Mathlib.Omega.{arith}
use mathlib.Core.Path.{◌≡◌, refl, sym, ap, ◌∙◌}
use mathlib.Core.Bool.{Bool, true, false, not, ◌&&◌, ◌||◌, beq}
use mathlib.Core.List.{List, [], ◌∷◌}
use lib.Dec.{T}
use lib.ListN.{drop}
use Rattle.reals.specs.Four.{flag}
use Rattle.reals.proofs.Truth.{is_true, is_false, table1, table3}
use Rattle.past.specs.Past.{every, latched}
use Rattle.past.specs.Runs.{running}
use Rattle.past.specs.Stepped.{in_order}
use Rattle.past.specs.Turns.{values, pulse}
use Rattle.past.proofs.Laws.{latched_step, latched_none}
use Rattle.past.proofs.RunLaws.{running_step}
use Rattle.past.proofs.Stepped.{finite_here}
use Rattle.relief_fan_group.specs.declared.types.ReliefRow.{ReliefRow}
use Rattle.relief_fan_group.specs.Constants.{proof_time}
use Rattle.relief_fan_group.specs.Reading.{Past, time_of_row, loop_of, up_pulse, down_pulse}
use Rattle.relief_fan_group.proofs.Pulses.{pulse_alone}
use Rattle.relief_fan_group.proofs.Blocks.{up_way, down_way, before}
use Rattle.relief_answers.specs.NextFan.{some_fan, first_in_order, next_to_start, next_to_stop, fans_after_up, fans_after_down, off_after_down}
use Rattle.relief_answers.specs.Latches.{supply_here, proof_here, proven, start_wanted, stop_wanted, settled_up, settled_down}
use Rattle.relief_answers.specs.Ends.{alike, steady}
use Rattle.relief_answers.proofs.Flags.{no, both_are, not_not, beq→eq, every_at, two, four, all64, at64}
use Rattle.relief_answers.proofs.Runs.{run_true, run_goes_on, run_widens}
use Rattle.relief_answers.proofs.NextFan.{up_only, down_only}

-- ---- two rows with the same supply flags and proofs
module _ (s p : List Bool) (x : ReliefRow) (h : Past) (e : alike s p (x ∷ h) ≡ true) where
  halves : (every 2 (λ i. beq (flag x.supply i) (flag s i)) ≡ true)
      × (every 4 (λ i. beq (flag x.proof i) (flag p i)) ≡ true)
  unfolding alike
  halves = both_are (every 2 (λ i. beq (flag x.supply i) (flag s i))) (every 4 (λ i. beq (flag x.proof i) (flag p i))) e

  like_supply : (i : ℕ) → i < 2 → flag x.supply i ≡ flag s i
  like_supply i l = beq→eq (flag x.supply i) (flag s i) (every_at 2 (λ i. beq (flag x.supply i) (flag s i)) halves.0 i l)

  like_proof : (i : ℕ) → i < 4 → flag x.proof i ≡ flag p i
  like_proof i l = beq→eq (flag x.proof i) (flag p i) (every_at 4 (λ i. beq (flag x.proof i) (flag p i)) halves.1 i l)

  -- what is worked from the six flags alone is the same
  pub like_same : (f : List Bool → List Bool → List Bool) → ((s p : List Bool) → f s p ≡ f (two s) (four p))
      → f x.supply x.proof ≡ f s p
  like_same f only =
      only x.supply x.proof
      ∙ rw (
        like_supply 0 (omega arith),
        like_supply 1 (omega arith),
        like_proof 0 (omega arith),
        like_proof 1 (omega arith),
        like_proof 2 (omega arith),
        like_proof 3 (omega arith),
      ) (sym (only s p))

-- ---- a direction
pub record Direction : Type 0 where
  -- the fans that the stage has on (off), and the next among them
  pub table : List Bool → List Bool → List Bool
  pub only : (s p : List Bool) → table s p ≡ table (two s) (four p)
  pub next : List Bool → List Bool → List Bool
  -- the stage has fan i so
  pub wanted : ℕ → Past → Bool
  pub wanted_none : (i : ℕ) → wanted i [] ≡ false
  pub wanted_is : (i : ℕ) (x : ReliefRow) (h : Past) → wanted i (x ∷ h) ≡ flag (table x.supply x.proof) i
  -- what a proof says of a fan: it is on (off)
  pub so : Bool → Bool
  -- each fan is as the table has it exactly where the table names none
  pub met : (s p : List Bool) → every 4 (λ i. beq (flag (table s p) i) (so (flag p i))) ≡ not (some_fan (next s p))
  -- a fan that the table names is not so yet
  pub not_yet : (s p : List Bool) (i : ℕ) → i < 4 → flag (next s p) i ≡ true → so (flag p i) ≡ false
  -- the pulse, which never comes on two rows in a row, and what clears the latch
  pub set : Past → Bool
  pub none : set [] ≡ false
  pub alone : (x : ReliefRow) (h : Past) → T (in_order time_of_row (x ∷ h)) → set (x ∷ h) ≡ true → set h ≡ false
  pub settled : Past → Bool
  pub settled_is : (h : Past)
      → settled h ≡ every 4 (λ i. beq (running time_of_row proof_time (wanted i) h) (so (proven i h)))

module _ (d : Direction) where
  abbrev pub latch : Past → Bool
  latch h = latched d.set d.settled h

  -- the stage has had fan i so for 2 s
  abbrev pub due : ℕ → Past → Bool
  due i h = running time_of_row proof_time (d.wanted i) h

  -- fan i is so
  abbrev pub done : ℕ → Past → Bool
  done i h = d.so (proven i h)

  abbrev pub lasted : (s p : List Bool) → Past → Bool
  lasted s p h = running time_of_row proof_time (alike s p) h

  -- ---- what a row does to the latch
  pub latch_none : latch [] ≡ false
  latch_none = latched_none {A = ReliefRow} d.set d.settled

  module _ (x : ReliefRow) (h : Past) where
    step : latch (x ∷ h) ≡ (not (d.settled (x ∷ h)) && ((d.set (x ∷ h) && not (d.set h)) || latch h))
    step = latched_step d.set d.settled d.none x h

    -- where it is on, one more row leaves it on exactly if it is not settled
    pub unless_settled : latch h ≡ true → latch (x ∷ h) ≡ not (d.settled (x ∷ h))
    unless_settled l = step ∙ rw l (table3 (λ a b c. not a && (b && not c || true)) (λ a b c. not a) tt (d.settled (x ∷ h)) (d.set (x ∷ h)) (d.set h))

    pub kept_on : latch h ≡ true → d.settled (x ∷ h) ≡ false → latch (x ∷ h) ≡ true
    kept_on l c = unless_settled l ∙ ap not c

    -- where it is off, a row without a pulse leaves it off
    pub stays_off : latch h ≡ false → d.set (x ∷ h) ≡ false → latch (x ∷ h) ≡ false
    stays_off l p = step ∙ rw (l, p) (table1 (λ a. not a && false) (λ a. false) tt (d.settled (x ∷ h)))

  -- it is off at a settled row
  pub off_where_settled : (h : Past) → d.settled h ≡ true → latch h ≡ false
  off_where_settled [] c = latch_none
  off_where_settled (x ∷ h) c = step x h ∙ rw c refl

  pub on_unsettled : (h : Past) → latch h ≡ true → d.settled h ≡ false
  on_unsettled h l = is_false (d.settled h) (λ c. no l (off_where_settled h (is_true (d.settled h) c)))

  -- a pulse turns it on exactly if its row is not settled
  pub sets : (h : Past) → T (in_order time_of_row h) → d.set h ≡ true → latch h ≡ not (d.settled h)
  sets [] o p = no p d.none
  sets (x ∷ h) o p = step x h ∙ rw (p, d.alone x h o p) (table1 (λ a. a && true) (λ a. a) tt (not (d.settled (x ∷ h))))

  -- at a settled row each fan is so exactly if the stage has had it so for 2 s
  pub at_settled : (h : Past) → d.settled h ≡ true → (i : ℕ) → i < 4 → due i h ≡ done i h
  at_settled h c i b = beq→eq (due i h) (done i h) (every_at 4 (λ j. beq (due j h) (done j h)) (sym (d.settled_is h) ∙ c) i b)

  -- so the stage has not had the fan for 2 s that its table names there
  pub not_due : (h : Past) → d.settled h ≡ true → (i : ℕ) → i < 4
      → flag (d.next (supply_here h) (proof_here h)) i ≡ true → due i h ≡ false
  not_due h c i b n = at_settled h c i b ∙ d.not_yet (supply_here h) (proof_here h) i b n

  -- ---- supplies and proofs that have not changed for 2 s
  module _ (s p : List Bool) (x : ReliefRow) (h : Past) (o : T (in_order time_of_row (x ∷ h))) (r : lasted s p (x ∷ h) ≡ true) where
    like_here : alike s p (x ∷ h) ≡ true
    like_here = run_true time_of_row (alike s p) (unfold alike in refl) proof_time (x ∷ h) r

    pub due_is : (i : ℕ) → due i (x ∷ h) ≡ flag (d.table s p) i
    due_is i = go (flag (d.table s p) i) refl
      where
        wants : (t : Past) → alike s p t ≡ true → d.wanted i t ≡ flag (d.table s p) i
        wants [] q = no q (unfold alike in refl)
        wants (y ∷ t) q = d.wanted_is i y t ∙ ap (λ (l : List Bool). flag l i) (like_same s p y t q d.table d.only)

        go : (b : Bool) → flag (d.table s p) i ≡ b → due i (x ∷ h) ≡ b
        go true e = run_widens time_of_row (alike s p) (d.wanted i) (unfold alike in refl) (d.wanted_none i) (λ t q. wants t q ∙ e) proof_time (x ∷ h) o r
        go false e = running_step time_of_row (d.wanted i) (d.wanted_none i) proof_time x h ∙ rw (wants (x ∷ h) like_here ∙ e) refl

    -- the row is settled exactly if the table names no fan
    pub settled_steady : d.settled (x ∷ h) ≡ not (some_fan (d.next s p))
    settled_steady = d.settled_is (x ∷ h) ∙ same ∙ d.met s p
      where
        so_is : (i : ℕ) → i < 4 → done i (x ∷ h) ≡ d.so (flag p i)
        so_is i b = ap d.so (like_proof s p x h like_here i b)

        same : every 4 (λ i. beq (due i (x ∷ h)) (done i (x ∷ h))) ≡ every 4 (λ i. beq (flag (d.table s p) i) (d.so (flag p i)))
        same = unfold every in rw (due_is 0, due_is 1, due_is 2, due_is 3, so_is 0 (omega arith), so_is 1 (omega arith), so_is 2 (omega arith), so_is 3 (omega arith)) refl

  -- so a pulse turns the latch on exactly if the table names a fan
  pub served_at : (h : Past) → T (in_order time_of_row h) → d.set h ≡ true → steady h ≡ true
      → latch h ≡ some_fan (d.next (supply_here h) (proof_here h))
  served_at [] o p r = no p d.none
  served_at (x ∷ h) o p r = sets (x ∷ h) o p ∙ ap not (settled_steady x.supply x.proof x h o r) ∙ not_not (some_fan (d.next x.supply x.proof))

  -- and it stays on while supplies and proofs stay as they are
  pub stays : (s p : List Bool) → some_fan (d.next s p) ≡ true → (x : ReliefRow) (h : Past)
      → T (in_order time_of_row (x ∷ h)) → alike s p (x ∷ h) ≡ true → (latch h ≡ true) × (lasted s p h ≡ true)
      → (latch (x ∷ h) ≡ true) × (lasted s p (x ∷ h) ≡ true)
  stays s p e x h o a z =
      let q = run_goes_on time_of_row (alike s p) (unfold alike in refl) proof_time x h o z.1 a in
      (kept_on x h z.0 (settled_steady s p x h o q ∙ ap not e), q)

  -- and while the stage has one fan so for 2 s that is not so, whatever else changes
  pub fan_stays : (i : ℕ) → i < 4 → (x : ReliefRow) (h : Past) → T (in_order time_of_row (x ∷ h))
      → (d.wanted i (x ∷ h) ≡ true) × (done i (x ∷ h) ≡ false) → (latch h ≡ true) × (due i h ≡ true)
      → (latch (x ∷ h) ≡ true) × (due i (x ∷ h) ≡ true)
  fan_stays i b x h o a z = (kept_on x h z.0 (is_false (d.settled (x ∷ h)) (λ c. no (sym (at_settled (x ∷ h) (is_true (d.settled (x ∷ h)) c) i b) ∙ q) a.1)), q)
    where
      q : due i (x ∷ h) ≡ true
      q = run_goes_on time_of_row (d.wanted i) (d.wanted_none i) proof_time x h o z.1 a.0

-- ---- pasts of earlier rows
pub order_drop : (k : ℕ) (h : Past) → T (in_order time_of_row h) → T (in_order time_of_row (drop k h))
order_drop zero h o = o
order_drop (suc k) [] o = o
order_drop (suc k) (x ∷ h) o = order_drop k h (before x h o)

-- what held k rows ago, and is kept by each row after it, holds here
pub onward : (P A : Past → Type 0)
    → ((x : ReliefRow) (h : Past) → T (in_order time_of_row (x ∷ h)) → A (x ∷ h) → P h → P (x ∷ h)) → (k : ℕ) (h : Past)
    → T (in_order time_of_row h) → P (drop k h) → ((j : ℕ) → j < k → A (drop j h)) → P h
onward P A f zero h o p a = p
onward P A f (suc k) [] o p a = p
onward P A f (suc k) (x ∷ h) o p a = f x h o (a 0 (omega arith)) (onward P A f k h (before x h o) p (λ j l. a (suc j) (omega (arith, l))))

-- ---- up and down
abbrev up_met : List Bool → List Bool → Bool
up_met s p = beq (every 4 (λ i. beq (flag (fans_after_up s p) i) (flag p i))) (not (some_fan (next_to_start s p)))

abbrev down_met : List Bool → List Bool → Bool
down_met s p = beq (every 4 (λ i. beq (flag (off_after_down s p) i) (not (flag p i)))) (not (some_fan (next_to_stop s p)))

up_met_64 : T (all64 up_met)
unfolding every fans_after_up next_to_start first_in_order
up_met_64 = tt

down_met_64 : T (all64 down_met)
unfolding every fans_after_down next_to_stop first_in_order
down_met_64 = tt

pub up_met_lem : (s p : List Bool)
    → every 4 (λ i. beq (flag (fans_after_up s p) i) (flag p i)) ≡ not (some_fan (next_to_start s p))
up_met_lem s p = beq→eq _ _ (unfold every fans_after_up next_to_start first_in_order in at64 up_met up_met_64 s p)

pub down_met_lem : (s p : List Bool)
    → every 4 (λ i. beq (flag (off_after_down s p) i) (not (flag p i))) ≡ not (some_fan (next_to_stop s p))
down_met_lem s p = beq→eq _ _ (unfold every fans_after_down next_to_stop first_in_order in at64 down_met down_met_64 s p)

-- a fan that is next to start is not proven, one that is next to stop is
abbrev not_proven : List Bool → List Bool → Bool
not_proven s p = every 4 (λ i. not (flag (next_to_start s p) i && flag p i))

abbrev are_proven : List Bool → List Bool → Bool
are_proven s p = every 4 (λ i. not (flag (next_to_stop s p) i && not (flag p i)))

not_proven_64 : T (all64 not_proven)
unfolding every next_to_start first_in_order
not_proven_64 = tt

are_proven_64 : T (all64 are_proven)
unfolding every next_to_stop first_in_order
are_proven_64 = tt

excluded : (a b : Bool) → not (a && b) ≡ true → a ≡ true → b ≡ false
excluded true b e p = sym (not_not b) ∙ ap not e
excluded false b e p = no p refl

pub up_not_yet : (s p : List Bool) (i : ℕ) → i < 4 → flag (next_to_start s p) i ≡ true → flag p i ≡ false
up_not_yet s p i b = excluded (flag (next_to_start s p) i) (flag p i)
    (every_at 4 (λ i. not (flag (next_to_start s p) i && flag p i)) (unfold every next_to_start first_in_order in at64 not_proven not_proven_64 s p) i b)

pub down_not_yet : (s p : List Bool) (i : ℕ) → i < 4 → flag (next_to_stop s p) i ≡ true → not (flag p i) ≡ false
down_not_yet s p i b = excluded (flag (next_to_stop s p) i) (not (flag p i))
    (every_at 4 (λ i. not (flag (next_to_stop s p) i && not (flag p i))) (unfold every next_to_stop first_in_order in at64 are_proven are_proven_64 s p) i b)

unfoldable pub upward : Direction
unfolding settled_up pulse values
upward =
    record {
      table = fans_after_up;
      only = up_only;
      next = next_to_start;
      wanted = start_wanted;
      wanted_none = λ i. refl;
      wanted_is = λ i x h. refl;
      so = λ p. p;
      met = up_met_lem;
      not_yet = up_not_yet;
      set = up_pulse;
      none = refl;
      alone = λ x h o p. pulse_alone time_of_row loop_of up_way x h (finite_here time_of_row x h o) p;
      settled = settled_up;
      settled_is = λ h. refl;
    }

unfoldable pub downward : Direction
unfolding settled_down pulse values
downward =
    record {
      table = off_after_down;
      only = λ s p. rw (down_only s p) refl;
      next = next_to_stop;
      wanted = stop_wanted;
      wanted_none = λ i. refl;
      wanted_is = λ i x h. refl;
      so = not;
      met = down_met_lem;
      not_yet = down_not_yet;
      set = down_pulse;
      none = refl;
      alone = λ x h o p. pulse_alone time_of_row loop_of down_way x h (finite_here time_of_row x h o) p;
      settled = settled_down;
      settled_is = λ h. refl;
    }
