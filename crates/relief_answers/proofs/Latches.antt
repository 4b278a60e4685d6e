-- The stage latches and the fans commanded on are those that the past tells, with nothing stepped. Assumes nothing.
use Rattle.std.specs.Prelude.{Ok}
use Prim.Native.Nat.{ℕ, ◌<◌}
use native.Mathlib.Omega.{arith}
use mathlib.Core.Path.{◌≡◌, refl, sym, ◌∙◌}
use mathlib.Core.Bool.{Bool, true, false, not, ◌&&◌, cond}
use mathlib.Core.List.{List, [], ◌∷◌}
use lib.Dec.{T}
use lib.Ieee.{Float}
use Rattle.reals.specs.Four.{flag, each4}
use Rattle.reals.proofs.Truth.{is_false, is_true}
use Rattle.logical.specs.declared.latch.LatchState.{LatchState}
use Rattle.reals.specs.Switch.{switch}
use Rattle.logical.specs.Latch.{latch_new, latch_output, latch_update}
use Rattle.past.specs.Past.{latched}
use Rattle.past.specs.Stepped.{in_order}
use Rattle.past.specs.Turns.{values, pulse}
use Rattle.past.specs.Whole.{accepted, state_after}
use Rattle.past.proofs.LatchReading.{latch_of, latch_new_lem, latch_output_lem, latch_update_lem}
use Rattle.relief_fans.specs.Flags.{not_each, switch_each, all_of}
use Rattle.relief_fan_group.specs.declared.types.ReliefRow.{ReliefRow}
use Rattle.relief_fan_group.specs.declared.types.ReliefBlocks.{ReliefBlocks}
use Rattle.relief_fan_group.specs.declared.types.ReliefSignals.{ReliefSignals}
use Rattle.relief_fan_group.specs.Signals.{stage_up, stage_down, relief_signals}
use Rattle.relief_fan_group.specs.Commands.{fans_on, relief_commands}
use Rattle.relief_fan_group.specs.Step.{relief_blocks, relief_fresh, relief_next, relief_row}
use Rattle.relief_fan_group.specs.Told.{relief_returned}
use Rattle.relief_fan_group.specs.Reading.{Past, time_of_row, mean, up_pulse, down_pulse, verdict_of}
use Rattle.relief_fan_group.specs.Blocks.{blocks_of, signals_of}
use Rattle.relief_fan_group.proofs.Blocks.{up_pulse_lem, down_pulse_lem, before}
use Rattle.relief_fan_group.proofs.Demand3.{good_order, accepted_good, commands_are}
use Rattle.relief_answers.specs.NextFan.{next_to_stop, fans_after_up, fans_after_down}
use Rattle.relief_answers.specs.Latches.{taken, settled_up, settled_down, up_latch, down_latch, fans_here}
use Rattle.relief_answers.proofs.Flags.{no, every_at}
use Rattle.relief_answers.proofs.NextFan.{or2_is, xor_is}
use Rattle.relief_answers.proofs.Settled.{all_every, settled_up_lem, settled_down_lem}

-- ---- a stage latch, with the pulse that sets it and what clears it
record Stage : Type 0 where
  set : Past → Bool
  clear : Past → Bool
  latch : ReliefBlocks → LatchState
  passed : ReliefSignals → Bool
  settled : ReliefSignals → Bool
  y : ReliefSignals → Bool
  none : set [] ≡ false
  starts : latch relief_blocks ≡ latch_new
  next : (b : ReliefBlocks) (x : ReliefRow) (g : ReliefSignals) → latch (relief_next b x g) ≡ latch_update (latch b) (passed g) (settled g)
  y_is : (b : ReliefBlocks) (x : ReliefRow) (a : Float) → y (relief_signals b x a) ≡ latch_output (latch b) (passed (relief_signals b x a)) (settled (relief_signals b x a))
  passed_is : (x : ReliefRow) (h : Past) → T (in_order time_of_row (x ∷ h)) → passed (signals_of x h) ≡ set (x ∷ h)
  settled_is : (x : ReliefRow) (h : Past) → T (in_order time_of_row (x ∷ h)) → settled (signals_of x h) ≡ clear (x ∷ h)

module _ (s : Stage) where
  held : (h : Past) → T (in_order time_of_row h) → s.latch (blocks_of h) ≡ latch_of s.set s.clear h
  unfolding blocks_of
  held [] t = s.starts ∙ latch_new_lem s.set s.clear s.none
  held (x ∷ h) t =
      s.next (blocks_of h) x (signals_of x h)
      ∙ rw (held h (before x h t), s.passed_is x h t, s.settled_is x h t) (latch_update_lem s.set s.clear s.none x h)

  module _ (x : ReliefRow) (h : Past) (t : T (in_order time_of_row (x ∷ h))) where
    latch_at : s.y (signals_of x h) ≡ latched s.set s.clear (x ∷ h)
    latch_at =
        s.y_is (blocks_of h) x (mean (x ∷ h))
        ∙ rw (held h (before x h t), s.passed_is x h t, s.settled_is x h t) (latch_output_lem s.set s.clear s.none x h)

unfoldable up_stage : Stage
unfolding relief_blocks relief_next relief_signals stage_up pulse values
up_stage =
    record {
      set = up_pulse;
      clear = settled_up;
      latch = λ b. b.lat2;
      passed = λ g. g.up.up_tim.passed;
      settled = λ g. g.up.all_newly_started_proven;
      y = λ g. g.up.lat2_y;
      none = refl;
      starts = refl;
      next = λ b x g. refl;
      y_is = λ b x a. refl;
      passed_is = up_pulse_lem;
      settled_is = settled_up_lem;
    }

unfoldable down_stage : Stage
unfolding relief_blocks relief_next relief_signals stage_down pulse values
down_stage =
    record {
      set = down_pulse;
      clear = settled_down;
      latch = λ b. b.lat1;
      passed = λ g. g.down.dow_tim.passed;
      settled = λ g. g.down.all_stopped_matches;
      y = λ g. g.down.lat1_y;
      none = refl;
      starts = refl;
      next = λ b x g. refl;
      y_is = λ b x a. refl;
      passed_is = down_pulse_lem;
      settled_is = settled_down_lem;
    }

-- ---- the latches among the signals of an accepted row, and the fans that its commands are worked from
module _ (x : ReliefRow) (h : Past) (t : T (in_order time_of_row (x ∷ h))) where
  pub up_latch_lem : (signals_of x h).up.lat2_y ≡ up_latch (x ∷ h)
  unfolding up_stage
  up_latch_lem = latch_at up_stage x h t

  pub down_latch_lem : (signals_of x h).down.lat1_y ≡ down_latch (x ∷ h)
  unfolding down_stage
  down_latch_lem = latch_at down_stage x h t

  -- a proven fan is not among fans that are all off
  none_proven : (i : ℕ) → i < 4 → flag x.proof i ≡ true → all_of (not_each x.proof) ≡ false
  unfolding not_each
  none_proven i b e = is_false (all_of (not_each x.proof)) (λ a. no (every_at 4 (λ j. not (flag x.proof j)) (sym (all_every (λ j. not (flag x.proof j))) ∙ is_true (all_of (not_each x.proof)) a) i b) (rw e refl))

  -- where all fans are off a stage down has none on
  kept : (i : ℕ) → i < 4 → (w : Bool)
      → cond (all_of (not_each x.proof)) (flag x.proof i) (flag x.proof i && w) ≡ (flag x.proof i && w)
  kept i b w = go (all_of (not_each x.proof)) (flag x.proof i) (none_proven i b)
    where
      go : (c a : Bool) → (a ≡ true → c ≡ false) → cond c a (a && w) ≡ (a && w)
      go true true f = no refl (f refl)
      go true false f = refl
      go false a f = refl

  pub fans_are : fans_on x.proof (signals_of x h).up (signals_of x h).down ≡ fans_here (x ∷ h)
  unfolding fans_on switch_each switch fans_here
  fans_are = rw (up_latch_lem, down_latch_lem, or2_is x h, xor_is x h, off) (go (up_latch (x ∷ h)) (down_latch (x ∷ h)))
    where
      up : List Bool
      up = fans_after_up x.supply x.proof

      down : List Bool
      down = fans_after_down x.supply x.proof

      off : (signals_of x h).up.all_fans_off ≡ all_of (not_each x.proof)
      off = unfold relief_signals stage_up in refl

      as_is : (c : Bool) → each4 (λ i. cond c (flag x.proof i) (flag x.proof i)) ≡ each4 (flag x.proof)
      as_is true = refl
      as_is false = refl

      stops : ℕ → Bool
      stops i = not (flag (next_to_stop x.supply x.proof) i)

      go : (a b : Bool)
          → each4 (λ i. cond a (flag up i) (cond (all_of (not_each x.proof)) (flag x.proof i) (cond b (flag down i) (flag x.proof i)))) ≡ cond a up (cond b down (each4 (flag x.proof)))
      go true b = unfold fans_after_up in refl
      go false true = unfold fans_after_down in rw (kept 0 (omega arith) (stops 0), kept 1 (omega arith) (stops 1), kept 2 (omega arith) (stops 2), kept 3 (omega arith) (stops 3)) refl
      go false false = as_is (all_of (not_each x.proof))

-- ---- over all lists, refused rows included
pub taken_in_order : (l : List ReliefRow) → T (in_order time_of_row (taken l))
taken_in_order l = good_order (taken l) (accepted_good l)

pub accepted_is_taken : (x : ReliefRow) (l : List ReliefRow) → verdict_of (taken l) x ≡ Ok tt
    → taken (x ∷ l) ≡ x ∷ taken l
unfolding accepted
accepted_is_taken x l e = rw e refl

-- the answer of an accepted row is the commands that are worked from the fans read off the list
pub fans_commanded : (x : ReliefRow) (l : List ReliefRow) → verdict_of (taken l) x ≡ Ok tt
    → ((relief_row (state_after relief_returned relief_fresh l) x).answer ≡ Ok (relief_commands x (signals_of x (taken l))))
    × (fans_on x.proof (signals_of x (taken l)).up (signals_of x (taken l)).down ≡ fans_here (x ∷ taken l))
fans_commanded x l e = (commands_are x l e, fans_are x (taken l) (rw (accepted_is_taken x l e) at (taken_in_order (x ∷ l))))
