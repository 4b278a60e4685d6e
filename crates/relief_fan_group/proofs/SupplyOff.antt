-- Both supply fans off: over every list of rows from a fresh start, refused ones included, all four speeds are 0, whatever the mean (a NaN too); and the same from
-- every state whose enable thresholds are as a start makes them. Assumes nothing.
use Rattle.std.specs.Prelude.{Ok, Err}
use Prim.Native.Nat.{ℕ}
use mathlib.Core.Path.{◌≡◌, refl, sym, ap, ◌∙◌}
use mathlib.Core.Bool.{Bool, true, false}
use mathlib.Core.List.{List, [], ◌∷◌}
use lib.Ieee.{Float, binary64, add, sub, mul, lt, of_bits}
use Rattle.reals.specs.Constants.{plus_zero, half}
use Rattle.reals.specs.Four.{real, flag, each4}
use Rattle.reals.specs.Switch.{switch, bool_to_real}
use Rattle.reals.specs.declared.threshold.ThresholdMode.TheVariants.{Greater}
use Rattle.reals.specs.declared.threshold.ThresholdState.{ThresholdState}
use Rattle.reals.specs.Threshold.{crosses, threshold_above, threshold_output, threshold_update}
use Rattle.refusals.specs.Refusals.{Verdict}
use Rattle.past.specs.Whole.{state_after}
use Rattle.moving_average.specs.State.{moving_average_is_full}
use Rattle.relief_fans.specs.Table.{ena_rel}
use Rattle.relief_fans.specs.Flags.{any_of}
use Rattle.relief_fans.specs.Blocks.{threshold_outputs, threshold_updates}
use Rattle.relief_fans.specs.Commands.{fan_speed}
use Rattle.relief_fan_group.specs.declared.types.ReliefRow.{ReliefRow}
use Rattle.relief_fan_group.specs.declared.types.ReliefBlocks.{ReliefBlocks}
use Rattle.relief_fan_group.specs.declared.types.ReliefState.{ReliefState}
use Rattle.relief_fan_group.specs.declared.types.ReliefSignals.{ReliefSignals}
use Rattle.relief_fan_group.specs.declared.types.ReliefCommands.{ReliefCommands}
use Rattle.relief_fan_group.specs.Verdict.{relief_verdict}
use Rattle.relief_fan_group.specs.Signals.{pressure_control, relief_signals}
use Rattle.relief_fan_group.specs.Commands.{fans_on, relief_commands}
use Rattle.relief_fan_group.specs.Step.{ReliefAnswer, relief_blocks, relief_fresh, relief_next, signals_at, step_by, relief_row}
use Rattle.relief_fan_group.specs.Told.{relief_returned}
use Rattle.relief_fan_group.specs.Alarms.{speeds_of}

-- ---- the enable thresholds, greThr3
-- a fan's enable threshold as a start makes it, whatever it gave last
abbrev pub at_half : Bool → ThresholdState
at_half gave = record { threshold = half; hysteresis = plus_zero; previous = gave; mode = Greater }

-- each of the four is such
pub record Halves (thresholds : List ThresholdState) : Type 0 where
  pub gave : ℕ → Bool
  pub are : thresholds ≡ each4 (λ i. at_half (gave i))

-- a start makes them so
pub fresh_halves : Halves relief_blocks.gre_thr3
unfolding relief_blocks threshold_above
fresh_halves = record { gave = λ i. false; are = refl }

-- an update changes only what they gave last
pub updates_halves : (thresholds : List ThresholdState) (u : List Float) → Halves thresholds → Halves (threshold_updates thresholds u)
unfolding threshold_updates threshold_update
updates_halves thresholds u h = record { gave = λ i. threshold_output (at_half (h.gave i)) (real u i); are = rw h.are refl }

step_halves : (v : Verdict) (state : ReliefState) (row : ReliefRow) → Halves state.blocks.gre_thr3 → Halves (step_by v state row).state.blocks.gre_thr3
unfolding step_by relief_next
step_halves (Ok tt) state row h = updates_halves state.blocks.gre_thr3 (signals_at state row).control.ena_rel h
step_halves (Err refusal) state row h = h

-- every row keeps them so, accepted or refused
pub row_halves : (state : ReliefState) (row : ReliefRow) → Halves state.blocks.gre_thr3 → Halves (relief_row state row).state.blocks.gre_thr3
unfolding relief_row
row_halves state row h = step_halves (relief_verdict state.blocks row (moving_average_is_full state.window row.time)) state row h

-- so they are so after every list of rows from a fresh start, refused ones included
pub run_halves : (l : List ReliefRow) → Halves (state_after relief_returned relief_fresh l).blocks.gre_thr3
unfolding state_after
run_halves [] = unfold relief_fresh in fresh_halves
run_halves (x ∷ l) = row_halves (state_after relief_returned relief_fresh l) x (run_halves l)

-- such a threshold gives false at 0
half_off : (gave : Bool) → threshold_output (at_half gave) plus_zero ≡ false
unfolding threshold_output crosses lt sub of_bits
half_off true = refl
half_off false = refl

none_enabled : ena_rel (false ∷ false ∷ []) ≡ each4 (λ i. plus_zero)
unfolding ena_rel bool_to_real switch mul add of_bits
none_enabled = refl

-- with both supply fans off no fan is enabled
pub any_off : (thresholds : List ThresholdState) → Halves thresholds → any_of (threshold_outputs thresholds (ena_rel (false ∷ false ∷ []))) ≡ false
unfolding threshold_outputs any_of
any_off thresholds h = rw (none_enabled, h.are, half_off (h.gave 0), half_off (h.gave 1), half_off (h.gave 2), half_off (h.gave 3)) refl

-- ---- the speeds
zero_speed : (on : Bool) → mul binary64 plus_zero (bool_to_real on) ≡ plus_zero
unfolding bool_to_real switch mul of_bits
zero_speed true = refl
zero_speed false = refl

-- where the common speed is 0 each fan's speed is 0, commanded on or not
pub zero_speeds : (row : ReliefRow) (signals : ReliefSignals) → switch signals.control.any_enabled signals.control.gated_controller plus_zero ≡ plus_zero
    → speeds_of (relief_commands row signals) ≡ each4 (λ i. plus_zero)
unfolding relief_commands fan_speed
zero_speeds row signals e =
    let on = fans_on row.proof signals.up signals.down in
    rw (e, zero_speed (flag on 0), zero_speed (flag on 1), zero_speed (flag on 2), zero_speed (flag on 3)) refl

-- at such blocks both supply fans off command speed 0 of all four fans, whatever the mean
pub still_off : (blocks : ReliefBlocks) (row : ReliefRow) (average : Float) → Halves blocks.gre_thr3 → row.supply ≡ false ∷ false ∷ []
    → speeds_of (relief_commands row (relief_signals blocks row average)) ≡ each4 (λ i. plus_zero)
still_off blocks row average h e =
    zero_speeds row (relief_signals blocks row average) (unfold relief_signals pressure_control in (rw (e, any_off blocks.gre_thr3 h) (unfold switch in refl)))

-- ---- the answers
commands_or : ReliefCommands → ReliefAnswer → ReliefCommands
commands_or other (Ok c) = c
commands_or other (Err refusal) = other

answered_by : (v : Verdict) (state : ReliefState) (row : ReliefRow) (c : ReliefCommands) → (step_by v state row).answer ≡ Ok c → relief_commands row (signals_at state row) ≡ c
unfolding step_by commands_or
answered_by (Ok tt) state row c a = ap (commands_or c) a
answered_by (Err refusal) state row c a = ap (commands_or (relief_commands row (signals_at state row))) a

-- the commands that a row answers are those worked from its signals
pub commands_answered : (state : ReliefState) (row : ReliefRow) (c : ReliefCommands) → (relief_row state row).answer ≡ Ok c → relief_commands row (signals_at state row) ≡ c
unfolding relief_row
commands_answered state row c a = answered_by (relief_verdict state.blocks row (moving_average_is_full state.window row.time)) state row c a

-- from every state whose enable thresholds are as a start makes them: a row with both supply fans off commands speed 0 of all four fans, whatever the mean
pub still_from_state : (state : ReliefState) (row : ReliefRow) (c : ReliefCommands) → Halves state.blocks.gre_thr3 → row.supply ≡ false ∷ false ∷ []
    → (relief_row state row).answer ≡ Ok c → speeds_of c ≡ each4 (λ i. plus_zero)
unfolding signals_at
still_from_state state row c h e a = ap speeds_of (sym (commands_answered state row c a)) ∙ still_off state.blocks row _ h e

-- for every list of rows from a fresh start, refused ones included (the newest first): the same
pub still_from_fresh : (l : List ReliefRow) (row : ReliefRow) (c : ReliefCommands) → row.supply ≡ false ∷ false ∷ []
    → (relief_row (state_after relief_returned relief_fresh l) row).answer ≡ Ok c → speeds_of c ≡ each4 (λ i. plus_zero)
still_from_fresh l row c e a = still_from_state (state_after relief_returned relief_fresh l) row c (run_halves l) e a
