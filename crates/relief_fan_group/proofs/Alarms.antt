-- Case R3, for every row: an unproven fan at alarm 2 has damper 0, an alarm 3 does nothing, and no alarm touches a speed or a signal. In the next state it touches
-- what is remembered of the alarms and nothing else, and no answer hangs on that. Assumes nothing.
use Rattle.std.specs.Prelude.{Ok, Err}
use Prim.Native.Nat.{ℕ, ◌<◌}
use mathlib.Core.Path.{◌≡◌, refl, ap, ◌∙◌}
use mathlib.Core.Bool.{Bool, false}
use mathlib.Core.List.{List}
use lib.IntN.{ℤ, pos}
use lib.Ieee.{Float, nan}
use Rattle.reals.specs.Constants.{plus_zero}
use Rattle.reals.specs.Four.{real, flag, each4}
use Rattle.reals.specs.Switch.{bool_to_real}
use Rattle.reals.proofs.Four.{at_each}
use Rattle.refusals.specs.Refusals.{Verdict}
use Rattle.moving_average.specs.State.{moving_average_is_full}
use Rattle.relief_fans.specs.Alarms.{alarms_fit, alarm_bytes}
use Rattle.relief_fans.specs.Commands.{level, is_level2, damper_at, damper}
use Rattle.relief_fans.proofs.Guard.{other_alarm, level_3_is_another, unproven_at_2_is_shut, guarded_as_commanded}
use Rattle.relief_fan_group.specs.declared.types.ReliefRow.{ReliefRow}
use Rattle.relief_fan_group.specs.declared.types.ReliefBlocks.{ReliefBlocks}
use Rattle.relief_fan_group.specs.declared.types.ReliefState.{ReliefState}
use Rattle.relief_fan_group.specs.declared.types.ReliefSignals.{ReliefSignals}
use Rattle.relief_fan_group.specs.Verdict.{numbers_finite, after_judged, relief_verdict}
use Rattle.relief_fan_group.specs.Signals.{pressure_control, damper_enable, stage_up, stage_down, relief_signals}
use Rattle.relief_fan_group.specs.Commands.{opened_of, relief_commands}
use Rattle.relief_fan_group.specs.Step.{relief_next, signals_at, step_by, relief_row}
use Rattle.relief_fan_group.specs.Alarms.{speeds_of, dampers_of, with_alarm, remembering, state_remembering}

module _ (row : ReliefRow) (signals : ReliefSignals) where
  dampers_are : dampers_of (relief_commands row signals) ≡ each4 (damper_at (opened_of row signals) row.alarm row.proof)
  unfolding relief_commands damper
  dampers_are = refl

  module _ (i : ℕ) (l : i < 4) where
    damper_is : real (dampers_of (relief_commands row signals)) i ≡ damper_at (opened_of row signals) row.alarm row.proof i
    damper_is = ap (λ (d : List Float). real d i) dampers_are ∙ at_each (damper_at (opened_of row signals) row.alarm row.proof) nan i l

    -- an unproven fan at alarm 2 has damper 0
    pub alarm_2_shuts : level row.alarm i ≡ pos 2 → flag row.proof i ≡ false → real (dampers_of (relief_commands row signals)) i ≡ plus_zero
    alarm_2_shuts a p = damper_is ∙ unproven_at_2_is_shut (opened_of row signals) row.alarm row.proof i a p

    -- at any other alarm, 3 among them, the damper is as commanded
    pub other_alarm_is_none : is_level2 (level row.alarm i) ≡ false → real (dampers_of (relief_commands row signals)) i ≡ bool_to_real (flag (opened_of row signals) i)
    other_alarm_is_none a =
        damper_is ∙ guarded_as_commanded (opened_of row signals) row.alarm row.proof i (other_alarm (level row.alarm i) (flag row.proof i) a)

    pub alarm_3_does_nothing : level row.alarm i ≡ pos 3 → real (dampers_of (relief_commands row signals)) i ≡ bool_to_real (flag (opened_of row signals) i)
    alarm_3_does_nothing a = other_alarm_is_none (rw a level_3_is_another)

  module _ (alarm : List ℤ) where
    -- the guard does not touch a speed
    pub speeds_whatever_the_alarm : speeds_of (relief_commands (with_alarm row alarm) signals) ≡ speeds_of (relief_commands row signals)
    unfolding relief_commands
    speeds_whatever_the_alarm = refl

    -- nor does an alarm touch any signal
    pub signals_whatever_the_alarm : (blocks : ReliefBlocks) (average : Float) → relief_signals blocks (with_alarm row alarm) average ≡ relief_signals blocks row average
    unfolding relief_signals pressure_control damper_enable stage_up stage_down
    signals_whatever_the_alarm blocks average = refl

    -- of its alarms a row's refusal asks only whether they fit their bytes
    pub verdict_by_fit : alarms_fit alarm ≡ alarms_fit row.alarm → (blocks : ReliefBlocks) (full : Bool) → relief_verdict blocks (with_alarm row alarm) full ≡ relief_verdict blocks row full
    unfolding relief_verdict after_judged numbers_finite
    verdict_by_fit e blocks full = rw e refl

    -- the next blocks with other alarms are the same, but that they remember those
    pub next_whatever_the_alarm : (blocks : ReliefBlocks) → relief_next blocks (with_alarm row alarm) signals ≡ remembering (alarm_bytes alarm) (relief_next blocks row signals)
    unfolding relief_next
    next_whatever_the_alarm blocks = refl

-- ---- what is remembered has no part in a row: not in its refusal, its signals, or the next blocks, so not in its answer
module _ (alarms : List ℤ) (row : ReliefRow) where
  pub verdict_whatever_is_remembered : (blocks : ReliefBlocks) (full : Bool) → relief_verdict (remembering alarms blocks) row full ≡ relief_verdict blocks row full
  unfolding relief_verdict
  verdict_whatever_is_remembered blocks full = refl

  pub signals_whatever_is_remembered : (blocks : ReliefBlocks) (average : Float) → relief_signals (remembering alarms blocks) row average ≡ relief_signals blocks row average
  unfolding relief_signals pressure_control damper_enable stage_up stage_down
  signals_whatever_is_remembered blocks average = refl

  pub next_whatever_is_remembered : (blocks : ReliefBlocks) (signals : ReliefSignals) → relief_next (remembering alarms blocks) row signals ≡ relief_next blocks row signals
  unfolding relief_next
  next_whatever_is_remembered blocks signals = refl

  pub answer_whatever_is_remembered : (state : ReliefState) → (relief_row (state_remembering alarms state) row).answer ≡ (relief_row state row).answer
  unfolding relief_row
  answer_whatever_is_remembered state =
      rw (verdict_whatever_is_remembered state.blocks (moving_average_is_full state.window row.time))
      (go (relief_verdict state.blocks row (moving_average_is_full state.window row.time)))
    where
      go : (v : Verdict) → (step_by v (state_remembering alarms state) row).answer ≡ (step_by v state row).answer
      go (Ok tt) = unfold step_by signals_at in rw (signals_whatever_is_remembered state.blocks _) refl
      go (Err r) = unfold step_by in refl
