-- Can the relief fans miss a stage? When a pulse is served and each way in which it is not, for every list of rows from a fresh start, refused ones included.
-- Assumes nothing.
use Rattle.std.specs.Prelude.{Ok, Err}
use Prim.Native.Nat.{ℕ, zero, suc, ◌<◌}
use native.Mathlib.Omega.{arith}
use mathlib.Core.Path.{◌≡◌, refl, sym, ap, ◌∙◌}
use mathlib.Core.Bool.{Bool, true, false, not, ◌&&◌, ◌||◌, cond}
use mathlib.Core.List.{List, [], ◌∷◌}
use lib.Dec.{T}
use lib.ListN.{drop}
use Rattle.reals.specs.Four.{flag, each4}
use Rattle.reals.proofs.Four.{at_each}
use Rattle.refusals.specs.Refusals.{Verdict}
use Rattle.past.specs.Stepped.{in_order}
use Rattle.past.specs.Whole.{accepted, next_by}
use Rattle.relief_fan_group.specs.declared.types.ReliefRow.{ReliefRow}
use Rattle.relief_fan_group.specs.Constants.{proof_time}
use Rattle.relief_fan_group.specs.Reading.{Past, time_of_row, up_pulse, down_pulse, verdict_of}
use Rattle.relief_answers.specs.NextFan.{enabled, some_fan, first_in_order, next_to_start, next_to_stop, fans_after_up, fans_after_down}
use Rattle.relief_answers.specs.Latches.{taken, supply_here, proof_here, proven, start_wanted, stop_wanted, start_due, stop_due, settled_up, settled_down, up_latch, down_latch, fans_here}
use Rattle.relief_answers.specs.Ends.{alike, steady, start_named, stop_named}
use Rattle.relief_answers.proofs.Flags.{no, not_not, no_fan, two, four}
use Rattle.relief_answers.proofs.Runs.{run_true}
use Rattle.relief_answers.proofs.NextFan.{up_only, down_only}
use Rattle.relief_answers.proofs.Latches.{taken_in_order}
use Rattle.relief_answers.proofs.Directions.{Direction, latch, latch_none, not_due, lasted, upward, downward, unless_settled, stays_off, off_where_settled, on_unsettled, sets, at_settled, served_at, stays, fan_stays, order_drop, onward, like_same}

-- ---- what each latch has commanded on
pub up_commands : (h : Past) → up_latch h ≡ true → fans_here h ≡ fans_after_up (supply_here h) (proof_here h)
unfolding fans_here
up_commands h e = rw e refl

pub down_commands : (h : Past) → up_latch h ≡ false → down_latch h ≡ true
    → fans_here h ≡ fans_after_down (supply_here h) (proof_here h)
unfolding fans_here
down_commands h e f = rw (e, f) refl

pub none_commands : (h : Past) → up_latch h ≡ false → down_latch h ≡ false → fans_here h ≡ each4 (flag (proof_here h))
unfolding fans_here
none_commands h e f = rw (e, f) refl

-- fan by fan: while the stage-up latch is on a fan is commanded on exactly if a stage up has it on; while the stage-down latch alone is, off exactly if a stage down
-- has it off
pub up_commanded : (i : ℕ) (l : List ReliefRow) → up_latch (taken l) ≡ true
    → flag (fans_here (taken l)) i ≡ start_wanted i (taken l)
up_commanded i l e = ap (λ (f : List Bool). flag f i) (up_commands (taken l) e) ∙ go (taken l) e
  where
    go : (h : Past) → up_latch h ≡ true → flag (fans_after_up (supply_here h) (proof_here h)) i ≡ start_wanted i h
    go [] e = no e (unfold upward in latch_none upward)
    go (x ∷ h) e = refl

pub down_commanded : (i : ℕ) → i < 4 → (l : List ReliefRow) → up_latch (taken l) ≡ false → down_latch (taken l) ≡ true
    → flag (fans_here (taken l)) i ≡ not (stop_wanted i (taken l))
down_commanded i b l u e = ap (λ (f : List Bool). flag f i) (down_commands (taken l) u e) ∙ go (taken l) e
  where
    go : (h : Past) → down_latch h ≡ true → flag (fans_after_down (supply_here h) (proof_here h)) i ≡ not (stop_wanted i h)
    go [] e = no e (unfold downward in latch_none downward)
    go (x ∷ h) e =
        let fans = fans_after_down x.supply x.proof in
        sym (ap not (at_each (λ j. not (flag fans j)) false i b) ∙ not_not (flag fans i))

-- ---- served: at a pulse, with supplies and proofs unchanged for 2 s, the latch is on exactly if the table names a fan
pub up_served : (l : List ReliefRow) → up_pulse (taken l) ≡ true → steady (taken l) ≡ true
    → up_latch (taken l) ≡ start_named (taken l)
unfolding upward
up_served l = served_at upward (taken l) (taken_in_order l)

pub down_served : (l : List ReliefRow) → down_pulse (taken l) ≡ true → steady (taken l) ≡ true
    → down_latch (taken l) ≡ stop_named (taken l)
unfolding downward
down_served l = served_at downward (taken l) (taken_in_order l)

-- and then exactly the table's fans are commanded on: down, while the stage-up latch is off
pub up_served_fans : (l : List ReliefRow) → up_pulse (taken l) ≡ true → steady (taken l) ≡ true
    → start_named (taken l) ≡ true → fans_here (taken l) ≡ fans_after_up (supply_here (taken l)) (proof_here (taken l))
up_served_fans l p r a = up_commands (taken l) (up_served l p r ∙ a)

pub down_served_fans : (l : List ReliefRow) → down_pulse (taken l) ≡ true → steady (taken l) ≡ true
    → stop_named (taken l) ≡ true → up_latch (taken l) ≡ false
    → fans_here (taken l) ≡ fans_after_down (supply_here (taken l)) (proof_here (taken l))
down_served_fans l p r a u = down_commands (taken l) u (down_served l p r ∙ a)

-- ---- lost: at a pulse the latch is on exactly if that row is not settled
pub up_lost : (l : List ReliefRow) → up_pulse (taken l) ≡ true → up_latch (taken l) ≡ not (settled_up (taken l))
unfolding upward
up_lost l = sets upward (taken l) (taken_in_order l)

pub down_lost : (l : List ReliefRow) → down_pulse (taken l) ≡ true → down_latch (taken l) ≡ not (settled_down (taken l))
unfolding downward
down_lost l = sets downward (taken l) (taken_in_order l)

-- so where it is lost, the stage has not had the fan on (off) for 2 s that its table names
pub up_lost_next : (i : ℕ) → i < 4 → (l : List ReliefRow) → settled_up (taken l) ≡ true
    → flag (next_to_start (supply_here (taken l)) (proof_here (taken l))) i ≡ true → start_due i (taken l) ≡ false
unfolding upward
up_lost_next i b l c = not_due upward (taken l) c i b

pub down_lost_next : (i : ℕ) → i < 4 → (l : List ReliefRow) → settled_down (taken l) ≡ true
    → flag (next_to_stop (supply_here (taken l)) (proof_here (taken l))) i ≡ true → stop_due i (taken l) ≡ false
unfolding downward
down_lost_next i b l c = not_due downward (taken l) c i b

-- ---- a latch that is on: one more row, refused or not, leaves it on exactly if the newest accepted row is not settled
one_more : (d : Direction) (x : ReliefRow) (l : List ReliefRow) → latch d (taken l) ≡ true
    → latch d (taken (x ∷ l)) ≡ not (d.settled (taken (x ∷ l)))
unfolding accepted
one_more d x l e = go (verdict_of (taken l) x)
  where
    go : (v : Verdict)
        → latch d (next_by v (x ∷ taken l) (taken l)) ≡ not (d.settled (next_by v (x ∷ taken l) (taken l)))
    go (Ok tt) = unless_settled d x (taken l) e
    go (Err r) = e ∙ sym (ap not (on_unsettled d (taken l) e))

pub up_goes_off : (x : ReliefRow) (l : List ReliefRow) → up_latch (taken l) ≡ true
    → up_latch (taken (x ∷ l)) ≡ not (settled_up (taken (x ∷ l)))
unfolding upward
up_goes_off = one_more upward

pub down_goes_off : (x : ReliefRow) (l : List ReliefRow) → down_latch (taken l) ≡ true
    → down_latch (taken (x ∷ l)) ≡ not (settled_down (taken (x ∷ l)))
unfolding downward
down_goes_off = one_more downward

-- ---- cut short: where the latch goes off, a fan stays as it was commanded exactly if the stage has had it so for 2 s (while the other latch is off)
pub up_cut_short : (i : ℕ) → i < 4 → (l : List ReliefRow) → settled_up (taken l) ≡ true → down_latch (taken l) ≡ false
    → flag (fans_here (taken l)) i ≡ start_due i (taken l)
unfolding upward
up_cut_short i b l c e =
    ap (λ (f : List Bool). flag f i) (none_commands (taken l) (off_where_settled upward (taken l) c) e)
    ∙ at_each (flag (proof_here (taken l))) false i b ∙ sym (at_settled upward (taken l) c i b)

pub down_cut_short : (i : ℕ) → i < 4 → (l : List ReliefRow) → settled_down (taken l) ≡ true → up_latch (taken l) ≡ false
    → flag (fans_here (taken l)) i ≡ not (stop_due i (taken l))
unfolding downward
down_cut_short i b l c e =
    ap (λ (f : List Bool). flag f i) (none_commands (taken l) e (off_where_settled downward (taken l) c))
    ∙ at_each (flag (proof_here (taken l))) false i b ∙ sym (ap not (at_settled downward (taken l) c i b) ∙ not_not (proven i (taken l)))

-- ---- blocked: after a steady pulse that names a fan, while supplies and proofs stay as they are, the latch stays on and the fans commanded on stay those of that
-- pulse, whatever the pressure and whatever pulses come
blocked_at : (d : Direction) (s p : List Bool) (k : ℕ) (h : Past) → T (in_order time_of_row h)
    → some_fan (d.next s p) ≡ true → (latch d (drop k h) ≡ true) × (lasted d s p (drop k h) ≡ true)
    → ((j : ℕ) → j < k → alike s p (drop j h) ≡ true) → (latch d h ≡ true) × (alike s p h ≡ true)
blocked_at d s p k h o n z a =
    let on = onward (λ h. (latch d h ≡ true) × (lasted d s p h ≡ true)) (λ h. alike s p h ≡ true) (stays d s p n) k h o z a in
    (on.0, run_true time_of_row (alike s p) (unfold alike in refl) proof_time h on.1)

table_alike : (f : List Bool → List Bool → List Bool)
    → ((s p : List Bool) → f s p ≡ f (two s) (four p)) → (s p : List Bool) (h : Past)
    → alike s p h ≡ true → f (supply_here h) (proof_here h) ≡ f s p
table_alike f only s p [] e = no e (unfold alike in refl)
table_alike f only s p (x ∷ h) e = like_same s p x h e f only

module _ (k : ℕ) (l : List ReliefRow) where
  abbrev then : Past
  then = drop k (taken l)

  abbrev same_since : Type 0
  same_since = (j : ℕ) → j < k → alike (supply_here then) (proof_here then) (drop j (taken l)) ≡ true

  pub up_blocked : up_pulse then ≡ true → steady then ≡ true → start_named then ≡ true → same_since
      → (up_latch (taken l) ≡ true) × (fans_here (taken l) ≡ fans_after_up (supply_here then) (proof_here then))
  unfolding upward
  up_blocked p r n a =
      let on = blocked_at upward (supply_here then) (proof_here then) k (taken l) (taken_in_order l) n (served_at upward then (order_drop k (taken l) (taken_in_order l)) p r ∙ n, r) a in
      (on.0, up_commands (taken l) on.0 ∙ table_alike fans_after_up up_only (supply_here then) (proof_here then) (taken l) on.1)

  pub down_blocked : down_pulse then ≡ true → steady then ≡ true → stop_named then ≡ true → same_since
      → (down_latch (taken l) ≡ true)
      × (up_latch (taken l) ≡ false → fans_here (taken l) ≡ fans_after_down (supply_here then) (proof_here then))
  unfolding downward
  down_blocked p r n a =
      let on = blocked_at downward (supply_here then) (proof_here then) k (taken l) (taken_in_order l) n (served_at downward then (order_drop k (taken l) (taken_in_order l)) p r ∙ n, r) a in
      (on.0, λ u. down_commands (taken l) u on.0 ∙ table_alike fans_after_down down_only (supply_here then) (proof_here then) (taken l) on.1)

  -- ---- blocked by one fan: the stage has had it on (off) for 2 s, and it stays so and unproven (proven) on all further rows: the latch stays on, whatever else changes
  pub up_blocked_by : (i : ℕ) → i < 4 → up_latch then ≡ true → start_due i then ≡ true
      → ((j : ℕ) → j < k → (start_wanted i (drop j (taken l)) ≡ true) × (proven i (drop j (taken l)) ≡ false))
      → up_latch (taken l) ≡ true
  unfolding upward
  up_blocked_by i b p r a =
      (onward (λ h. (up_latch h ≡ true) × (start_due i h ≡ true)) (λ h. (start_wanted i h ≡ true) × (proven i h ≡ false)) (fan_stays upward i b) k (taken l) (taken_in_order l) (p, r) a).0

  pub down_blocked_by : (i : ℕ) → i < 4 → down_latch then ≡ true → stop_due i then ≡ true
      → ((j : ℕ) → j < k → (stop_wanted i (drop j (taken l)) ≡ true) × (proven i (drop j (taken l)) ≡ true))
      → down_latch (taken l) ≡ true
  unfolding downward
  down_blocked_by i b p r a =
      (onward (λ h. (down_latch h ≡ true) × (stop_due i h ≡ true)) (λ h. (stop_wanted i h ≡ true) × (proven i h ≡ true))
      (λ x h o w. fan_stays downward i b x h o (w.0, ap not w.1)) k (taken l) (taken_in_order l) (p, r) a).0

  -- ---- a proof that drops out: where both latches were off and no pulse has come since, a fan is commanded on exactly if it is proven
  pub proof_dropped : (i : ℕ) → i < 4 → up_latch then ≡ false → down_latch then ≡ false
      → ((j : ℕ) → j < k → (up_pulse (drop j (taken l)) ≡ false) × (down_pulse (drop j (taken l)) ≡ false))
      → flag (fans_here (taken l)) i ≡ proven i (taken l)
  unfolding upward downward
  proof_dropped i b u d a =
      let off = onward (λ h. (up_latch h ≡ false) × (down_latch h ≡ false)) (λ h. (up_pulse h ≡ false) × (down_pulse h ≡ false))
      (λ x h o w z. (stays_off upward x h z.0 w.0, stays_off downward x h z.1 w.1)) k (taken l) (taken_in_order l) (u, d) a in
      ap (λ (f : List Bool). flag f i) (none_commands (taken l) off.0 off.1) ∙ at_each (flag (proof_here (taken l))) false i b

-- ---- the fans commanded on, one by one
module _ (h : Past) (i : ℕ) (b : i < 4) where
  abbrev starts : Bool
  starts = flag (next_to_start (supply_here h) (proof_here h)) i

  abbrev stops : Bool
  stops = flag (next_to_stop (supply_here h) (proof_here h)) i

  fan_here : flag (fans_here h) i
      ≡ cond (up_latch h) (proven i h || starts) (cond (down_latch h) (proven i h && not stops) (proven i h))
  unfolding fans_here
  fan_here = go (up_latch h) (down_latch h)
    where
      up : List Bool
      up = fans_after_up (supply_here h) (proof_here h)

      down : List Bool
      down = fans_after_down (supply_here h) (proof_here h)

      go : (u d : Bool) → flag (cond u up (cond d down (each4 (flag (proof_here h))))) i
          ≡ cond u (proven i h || starts) (cond d (proven i h && not stops) (proven i h))
      go true d = unfold fans_after_up in at_each (λ j. proven j h || flag (next_to_start (supply_here h) (proof_here h)) j) false i b
      go false true = unfold fans_after_down in at_each (λ j. proven j h && not (flag (next_to_stop (supply_here h) (proof_here h)) j)) false i b
      go false false = at_each (λ j. proven j h) false i b

-- a stage down is overruled: while the stage-up latch is on every proven fan is commanded on, whatever the stage-down latch is
pub down_overruled : (i : ℕ) → i < 4 → (l : List ReliefRow) → up_latch (taken l) ≡ true → proven i (taken l) ≡ true
    → flag (fans_here (taken l)) i ≡ true
down_overruled i b l u e = fan_here (taken l) i b ∙ rw (u, e) refl

-- a fan of a stopped supply is never the next to stop
not_next : (s p : List Bool) (i : ℕ) → i < 4 → enabled s i ≡ false → flag (next_to_stop s p) i ≡ false
unfolding next_to_stop first_in_order
not_next s p zero b e = rw e refl
not_next s p (suc zero) b e = rw e refl
not_next s p (suc (suc zero)) b e = rw e refl
not_next s p (suc (suc (suc zero))) b e = rw e refl
not_next s p (suc (suc (suc (suc i)))) b e = absurd (omega arith)

-- so where it is proven it is commanded on, whatever pulses come
pub stopped_supply_runs_on : (i : ℕ) → i < 4 → (l : List ReliefRow) → enabled (supply_here (taken l)) i ≡ false
    → proven i (taken l) ≡ true → flag (fans_here (taken l)) i ≡ true
stopped_supply_runs_on i b l s e = fan_here (taken l) i b ∙ rw (e, not_next (supply_here (taken l)) (proof_here (taken l)) i b s) (go (up_latch (taken l)) (down_latch (taken l)))
  where
    go : (u d : Bool) → cond u true (cond d true true) ≡ true
    go true d = refl
    go false true = refl
    go false false = refl

-- ---- wrong fans: no fan is proven and a supply fan is off. Then the fans of the stopped supplies start
pub wrong_fans : (l : List ReliefRow) → up_pulse (taken l) ≡ true → steady (taken l) ≡ true
    → some_fan (proof_here (taken l)) ≡ false → (flag (supply_here (taken l)) 0 && flag (supply_here (taken l)) 1) ≡ false
    → fans_here (taken l) ≡ each4 (λ i. not (enabled (supply_here (taken l)) i))
wrong_fans l p r e f = up_served_fans l p r (rw named (some_off (flag s 0) (flag s 1) f)) ∙ unfold fans_after_up in rw (named, off 0 (omega arith), off 1 (omega arith), off 2 (omega arith), off 3 (omega arith)) refl
  where
    s : List Bool
    s = supply_here (taken l)

    off : (i : ℕ) → i < 4 → flag (proof_here (taken l)) i ≡ false
    off i b = no_fan (proof_here (taken l)) i b e

    named : next_to_start (supply_here (taken l)) (proof_here (taken l)) ≡ each4 (λ i. not (enabled (supply_here (taken l)) i))
    named = unfold next_to_start in rw (e, f) refl

    some_off : (a b : Bool) → (a && b) ≡ false → (not a || not a || not b || not b) ≡ true
    some_off true true g = sym g
    some_off true false g = refl
    some_off false b g = refl
