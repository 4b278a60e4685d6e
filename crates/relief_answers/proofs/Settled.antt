-- What clears a stage latch is a settled row: the delays of the four fans, and what they are compared with, read off the past. Assumes nothing.
use Prim.Native.Nat.{ℕ}
use mathlib.Core.Path.{◌≡◌, refl, ap}
use mathlib.Core.Bool.{Bool, true, false, not, ◌&&◌, beq}
use mathlib.Core.List.{List, [], ◌∷◌}
use lib.Dec.{T}
use lib.Ieee.{le, of_bits}
use Rattle.reals.specs.Constants.{plus_zero}
use Rattle.reals.specs.Four.{flag, each4}
use Rattle.reals.proofs.Truth.{table2, table4}
use Rattle.logical.specs.declared.true_delay_on_init.TrueDelayOnInitState.{TrueDelayOnInitState}
use Rattle.logical.specs.TrueDelayOnInit.{true_delay_on_init_new, true_delay_on_init_output, true_delay_on_init_update}
use Rattle.past.specs.Past.{every}
use Rattle.past.specs.Runs.{running}
use Rattle.past.specs.Stepped.{in_order}
use Rattle.past.proofs.Stepped.{finite_here}
use Rattle.past.proofs.TimerReading.{true_delay_on_init_of, true_delay_on_init_new_lem, true_delay_on_init_output_lem, true_delay_on_init_update_lem}
use Rattle.relief_fans.specs.Flags.{equal_each, xor_each, all_of}
use Rattle.relief_fans.specs.Blocks.{delay_outputs, delay_updates}
use Rattle.relief_fan_group.specs.declared.types.ReliefRow.{ReliefRow}
use Rattle.relief_fan_group.specs.Constants.{proof_time}
use Rattle.relief_fan_group.specs.Signals.{stage_up, stage_down, relief_signals}
use Rattle.relief_fan_group.specs.Step.{relief_blocks, relief_next}
use Rattle.relief_fan_group.specs.Reading.{Past, time_of_row}
use Rattle.relief_fan_group.specs.Blocks.{blocks_of, signals_of}
use Rattle.relief_answers.specs.Latches.{start_wanted, stop_wanted, settled_up, settled_down}
use Rattle.relief_answers.proofs.NextFan.{or2_is, not5_is}

-- ---- the delays of the four fans
-- a test of each of the four
pub all_every : (g : ℕ → Bool) → all_of (each4 g) ≡ every 4 g
unfolding all_of every
all_every g = table4 (λ a b c d. (((true && a) && b) && c) && d) (λ a b c d. a && (b && (c && (d && true)))) tt (g 0) (g 1) (g 2) (g 3)

proof_positive : le proof_time plus_zero ≡ false
unfolding le of_bits
proof_positive = refl

-- u i is the input of fan i's delay, false before row 0
module _ (u : ℕ → Past → Bool) (none : (i : ℕ) → u i [] ≡ false) where
  abbrev delays_of : Past → List TrueDelayOnInitState
  delays_of h = each4 (λ i. true_delay_on_init_of time_of_row proof_time (u i) (none i) proof_positive h)

  delays_new : each4 (λ i. true_delay_on_init_new proof_time) ≡ delays_of []
  delays_new = rw (true_delay_on_init_new_lem time_of_row proof_time (u 0) (none 0) proof_positive, none 0, none 1, none 2, none 3)

  module _ (x : ReliefRow) (h : Past) (b : List TrueDelayOnInitState) (e : b ≡ delays_of h) (o : List Bool) (same : (i : ℕ) → flag o i ≡ u i (x ∷ h)) where
    delays_next : delay_updates b x.time o ≡ delays_of (x ∷ h)
    unfolding delay_updates
    delays_next = rw (e, one 0, one 1, one 2, one 3) refl
      where
        one : (i : ℕ)
            → true_delay_on_init_update (true_delay_on_init_of time_of_row proof_time (u i) (none i) proof_positive h) x.time (flag o i) ≡ true_delay_on_init_of time_of_row proof_time (u i) (none i) proof_positive (x ∷ h)
        one i = rw (same i) (true_delay_on_init_update_lem time_of_row proof_time (u i) (none i) proof_positive x h)

    -- fan i's delay here: its input has been true for 2 s
    delay_reads : T (in_order time_of_row (x ∷ h)) → (i : ℕ)
        → true_delay_on_init_output (true_delay_on_init_of time_of_row proof_time (u i) (none i) proof_positive h) x.time (flag o i) ≡ running time_of_row proof_time (u i) (x ∷ h)
    delay_reads t i = rw (same i) (true_delay_on_init_output_lem time_of_row proof_time (u i) (none i) proof_positive x h (finite_here time_of_row x h t))

    module _ (t : T (in_order time_of_row (x ∷ h))) (p : List Bool) where
      abbrev ran : ℕ → Bool
      ran i = running time_of_row proof_time (u i) (x ∷ h)

      all_equal : all_of (equal_each (delay_outputs b x.time o) p) ≡ every 4 (λ i. beq (ran i) (flag p i))
      unfolding equal_each delay_outputs
      all_equal = rw (e, delay_reads t 0, delay_reads t 1, delay_reads t 2, delay_reads t 3) (all_every (λ i. beq (ran i) (flag p i)))

      -- a proof that differs from the delayed stop is the other way round
      differs : (a b : Bool) → not (beq a b) ≡ beq b (not a)
      differs = table2 (λ a b. not (beq a b)) (λ a b. beq b (not a)) tt

      all_differ : all_of (xor_each p (delay_outputs b x.time o)) ≡ every 4 (λ i. beq (ran i) (not (flag p i)))
      unfolding xor_each delay_outputs
      all_differ =
          rw (
            e,
            delay_reads t 0,
            delay_reads t 1,
            delay_reads t 2,
            delay_reads t 3,
            differs (flag p 0) (ran 0),
            differs (flag p 1) (ran 1),
            differs (flag p 2) (ran 2),
            differs (flag p 3) (ran 3),
          ) (all_every (λ i. beq (ran i) (not (flag p i))))

-- what the delays are given is what the table says
up_flag : (x : ReliefRow) (h : Past) (i : ℕ) → flag (signals_of x h).up.or2 i ≡ start_wanted i (x ∷ h)
up_flag x h i = ap (λ (l : List Bool). flag l i) (or2_is x h)

down_flag : (x : ReliefRow) (h : Past) (i : ℕ) → flag (signals_of x h).down.not5 i ≡ stop_wanted i (x ∷ h)
down_flag x h i = ap (λ (l : List Bool). flag l i) (not5_is x h)

up_delays : (h : Past) → (blocks_of h).tru_del ≡ delays_of start_wanted (λ i. refl) h
unfolding blocks_of relief_blocks relief_next
up_delays [] = delays_new start_wanted (λ i. refl)
up_delays (x ∷ h) = delays_next start_wanted (λ i. refl) x h (blocks_of h).tru_del (up_delays h) (signals_of x h).up.or2 (up_flag x h)

down_delays : (h : Past) → (blocks_of h).tru_del1 ≡ delays_of stop_wanted (λ i. refl) h
unfolding blocks_of relief_blocks relief_next
down_delays [] = delays_new stop_wanted (λ i. refl)
down_delays (x ∷ h) = delays_next stop_wanted (λ i. refl) x h (blocks_of h).tru_del1 (down_delays h) (signals_of x h).down.not5 (down_flag x h)

-- what clears the latches is what is settled
pub settled_up_lem : (x : ReliefRow) (h : Past) → T (in_order time_of_row (x ∷ h))
    → (signals_of x h).up.all_newly_started_proven ≡ settled_up (x ∷ h)
unfolding settled_up relief_signals stage_up
settled_up_lem x h t = all_equal start_wanted (λ i. refl) x h (blocks_of h).tru_del (up_delays h) (signals_of x h).up.or2 (up_flag x h) t x.proof

pub settled_down_lem : (x : ReliefRow) (h : Past) → T (in_order time_of_row (x ∷ h))
    → (signals_of x h).down.all_stopped_matches ≡ settled_down (x ∷ h)
unfolding settled_down relief_signals stage_down
settled_down_lem x h t = all_differ stop_wanted (λ i. refl) x h (blocks_of h).tru_del1 (down_delays h) (signals_of x h).down.not5 (down_flag x h) t x.proof
