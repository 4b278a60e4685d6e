-- Demand 3 for economizer rows: for every list of rows from a fresh start and at every place in it, refusal or enable and both delays are those
-- read off the accepted rows up to there. Assumes nothing.
use Rattle.std.specs.Prelude.{Ok, Err}
use Prim.Native.Nat.{ℕ, suc, ◌<◌}
use mathlib.Core.Path.{◌≡◌, refl, ap}
use mathlib.Core.Bool.{Bool, true, false, ◌&&◌}
use mathlib.Core.List.{List, [], ◌∷◌, reverse}
use lib.Dec.{T}
use lib.ListN.{length, get_or, take}
use lib.Ieee.{Float, of_bits, le, lt, is_nan}
use lib.Ieee.Scale.{finite}
use Rattle.reals.specs.Constants.{plus_zero}
use Rattle.reals.specs.Order.{greater}
use Rattle.reals.specs.Switch.{switch}
use Rattle.reals.specs.declared.pid_with_reset.PidWithResetState.{PidWithResetState}
use Rattle.reals.specs.Hysteresis.{hysteresis_output}
use Rattle.reals.specs.Pid.{pid_with_reset_new, pid_with_reset_update}
use Rattle.logical.specs.declared.true_delay.TrueDelayState.{TrueDelayState}
use Rattle.logical.specs.TrueFalseHold.{true_false_hold_output}
use Rattle.logical.specs.TrueDelay.{true_delay_new, true_delay_output, true_delay_update}
use Rattle.refusals.specs.Refusals.{Verdict}
use Rattle.past.specs.Acceptance.{last_time, verdict_after}
use Rattle.past.specs.Stepped.{stepped, in_order}
use Rattle.logical.specs.Run.{run}
use Rattle.past.specs.Whole.{Told, told_by, next_by, state_after, accepted, read_all}
use Rattle.past.proofs.LevelReading.{hysteresis_of, hysteresis_new_lem, hysteresis_output_lem, hysteresis_update_lem}
use Rattle.past.proofs.HoldReading.{true_false_hold_of, true_false_hold_new_lem, true_false_hold_output_lem, true_false_hold_update_lem}
use Rattle.past.proofs.DelayReading.{true_delay_of, true_delay_new_lem, true_delay_output_lem, true_delay_update_lem}
use Rattle.past.proofs.Whole.{read_newest, read_at_lem}
use Rattle.past.proofs.Sequence.{SequenceReads, sequence_reads}
use Rattle.economizer_controller.specs.declared.types.EconomizerRow.{EconomizerRow}
use Rattle.economizer_controller.specs.declared.types.EconomizerState.{EconomizerState}
use Rattle.economizer_controller.specs.declared.types.EnableSignals.{EnableSignals}
use Rattle.economizer_controller.specs.declared.enable.EnableState.{EnableState}
use Rattle.economizer_controller.specs.Constants.{outdoor_air_cutoff, hold_duration, outdoor_delay, return_delay}
use Rattle.economizer_controller.specs.Verdict.{numbers_finite, economizer_verdict}
use Rattle.economizer_controller.specs.Enable.{enable_new, enable_output, enable_update}
use Rattle.economizer_controller.specs.Step.{economizer_fresh, economizer_signals, economizer_next, step_by, economizer_row}
use Rattle.economizer_controller.specs.Reading.{
  Past,
  time_of_row,
  verdict_of,
  difference,
  warm_outside,
  held,
  is_enabled,
  not_enabled,
  delay_done,
  EconomizerReading,
  economizer_reading,
}
use Rattle.economizer_controller.specs.Told.{economizer_worked, answer_from, reading_in, reading_from, economizer_told, economizer_returned}

-- ---- the constants
hold_kept : greater hold_duration plus_zero ≡ hold_duration
unfolding of_bits greater switch lt is_nan
hold_kept = refl

outdoor_positive : le outdoor_delay plus_zero ≡ false
unfolding of_bits le
outdoor_positive = refl

return_positive : le return_delay plus_zero ≡ false
unfolding of_bits le
return_positive = refl

none_before : not_enabled [] ≡ false
unfolding not_enabled
none_before = refl

-- ---- the state, as a function of the past. No reading speaks of the loop: its state is the block stepped over the past.
abbrev loop_update : PidWithResetState → Past → PidWithResetState
loop_update s [] = s
loop_update s (x ∷ h) = pid_with_reset_update s x.time x.minimum_outdoor_airflow_setpoint_normalized x.outdoor_airflow_normalized x.supply_fan_status

abbrev delay_of : (n : Float) → le n plus_zero ≡ false → Past → TrueDelayState
delay_of n positive h = true_delay_of time_of_row n not_enabled none_before positive h

abbrev enable_of : Past → EnableState
enable_of h = record {
  hysteresis = hysteresis_of difference h;
  hold = true_false_hold_of time_of_row hold_duration hold_duration warm_outside h;
  outdoor_delay = delay_of outdoor_delay outdoor_positive h;
  return_delay = delay_of return_delay return_positive h;
}

abbrev state_of : Past → EconomizerState
state_of h = record { last = last_time time_of_row h; minimum_outdoor_air_loop = stepped pid_with_reset_new loop_update h; enable = enable_of h }

delay_new : (n : Float) (positive : le n plus_zero ≡ false) → true_delay_new ≡ delay_of n positive []
delay_new n positive = true_delay_new_lem time_of_row n not_enabled none_before positive

fresh_is : economizer_fresh ≡ state_of []
unfolding economizer_fresh enable_new
fresh_is =
    rw (
      ← hysteresis_new_lem difference,
      ← true_false_hold_new_lem time_of_row hold_duration hold_duration warm_outside,
      ← delay_new outdoor_delay outdoor_positive,
      ← delay_new return_delay return_positive,
    )

-- ---- the signals of the enable pass, read off the past
abbrev enable_read : Past → EnableSignals
enable_read h = record {
  dry_bulb_delta = difference h;
  outdoor_air_condition = warm_outside h;
  held_condition = held h;
  enabled = is_enabled h;
  outdoor_delay_done = delay_done outdoor_delay h;
  return_delay_done = delay_done return_delay h;
}

module _ (x : EconomizerRow) (h : Past) where
  warm_output : hysteresis_output (hysteresis_of difference h) (difference (x ∷ h)) ≡ warm_outside (x ∷ h)
  unfolding warm_outside
  warm_output = hysteresis_output_lem difference x h

  module _ (o : T (in_order time_of_row (x ∷ h))) where
    held_output : true_false_hold_output (true_false_hold_of time_of_row hold_duration hold_duration warm_outside h) x.time (warm_outside (x ∷ h)) ≡ held (x ∷ h)
    unfolding held
    held_output = true_false_hold_output_lem time_of_row hold_duration hold_duration warm_outside hold_kept hold_kept x h o

    delay_output : (n : Float) (positive : le n plus_zero ≡ false) → true_delay_output (delay_of n positive h) x.time (not_enabled (x ∷ h)) n ≡ delay_done n (x ∷ h)
    unfolding delay_done
    delay_output n positive = true_delay_output_lem time_of_row n not_enabled none_before positive x h o

    delay_update : (n : Float) (positive : le n plus_zero ≡ false) → true_delay_update (delay_of n positive h) x.time (not_enabled (x ∷ h)) n ≡ delay_of n positive (x ∷ h)
    delay_update n positive = true_delay_update_lem time_of_row n not_enabled none_before positive x h o

    enable_reads : enable_output (enable_of h) x.time x.outdoor_air_temperature outdoor_air_cutoff x.supply_fan_status x.freeze_protection_stage ≡ enable_read (x ∷ h)
    unfolding enable_output is_enabled not_enabled
    enable_reads = rw (warm_output, held_output, delay_output outdoor_delay outdoor_positive, delay_output return_delay return_positive)

    enable_moves : enable_update (enable_of h) x.time (enable_read (x ∷ h)) ≡ enable_of (x ∷ h)
    unfolding enable_update is_enabled not_enabled
    enable_moves =
        rw (
          hysteresis_update_lem difference x h,
          true_false_hold_update_lem time_of_row hold_duration hold_duration warm_outside hold_kept hold_kept x h o,
          delay_update outdoor_delay outdoor_positive,
          delay_update return_delay return_positive,
        )

    -- ---- one row of the sequence
    reads : reading_in (economizer_signals (state_of h) x) ≡ economizer_reading (x ∷ h)
    unfolding economizer_signals economizer_reading
    reads = rw enable_reads

    moves : economizer_next (state_of h) x (economizer_signals (state_of h) x) ≡ state_of (x ∷ h)
    unfolding economizer_next economizer_signals
    moves = rw (enable_reads, enable_moves)

-- ---- a row's answer, what it tells and its state are made by its verdict and its signals
module _ (state : EconomizerState) (row : EconomizerRow) where
  pub economizer_answer : (economizer_row state row).answer ≡ answer_from row (economizer_worked state row)
  unfolding economizer_row economizer_worked step_by
  economizer_answer = go (economizer_verdict state row)
    where
      go : (v : Verdict) → (step_by v state row).answer ≡ answer_from row (told_by v (economizer_signals state row))
      go (Ok tt) = refl
      go (Err r) = refl

  pub economizer_told_lem : economizer_told state row ≡ told_by (economizer_verdict state row) (reading_in (economizer_signals state row))
  unfolding economizer_worked
  economizer_told_lem = go (economizer_verdict state row)
    where
      go : (v : Verdict) → reading_from (told_by v (economizer_signals state row)) ≡ told_by v (reading_in (economizer_signals state row))
      go (Ok tt) = refl
      go (Err r) = refl

  pub economizer_returned_lem : economizer_returned state row ≡ next_by (economizer_verdict state row) (economizer_next state row (economizer_signals state row)) state
  unfolding economizer_row step_by
  economizer_returned_lem = go (economizer_verdict state row)
    where
      go : (v : Verdict) → (step_by v state row).state ≡ next_by v (economizer_next state row (economizer_signals state row)) state
      go (Ok tt) = refl
      go (Err r) = refl

-- ---- whole lists
time_finite : (x : EconomizerRow) → T (numbers_finite x) → T (finite x.time)
unfolding numbers_finite
time_finite x t = first (finite x.time) _ _ _ _ t
  where
    first : (a b c d e : Bool) → T (a && b && c && d && e) → T a
    first true b c d e t = tt
    first false b c d e t = t

runs_read : SequenceReads verdict_of economizer_told economizer_returned economizer_fresh state_of (λ s x. reading_in (economizer_signals s x)) economizer_reading
unfolding economizer_verdict
runs_read =
    sequence_reads time_of_row numbers_finite time_finite (λ s. s.last) (λ s x. reading_in (economizer_signals s x)) (λ s x. economizer_next s x (economizer_signals s x))
    economizer_told economizer_returned economizer_told_lem economizer_returned_lem economizer_fresh state_of economizer_reading fresh_is (λ h. refl) reads moves

-- for every list of rows
pub economizer_demand_3 : (rows : List EconomizerRow) → run economizer_told economizer_returned economizer_fresh rows ≡ read_all verdict_of economizer_reading [] rows
economizer_demand_3 = runs_read.runs

-- the last accepted time that the state after the rows l keeps, refused ones too, and the verdict on a row, are those that the list tells
pub last_reads : (l : List EconomizerRow) → (state_after economizer_returned economizer_fresh l).last ≡ last_time time_of_row (accepted verdict_of l)
last_reads l = ap (λ (s : EconomizerState). s.last) (runs_read.states l)

pub verdict_reads : (x : EconomizerRow) (l : List EconomizerRow) → economizer_verdict (state_after economizer_returned economizer_fresh l) x ≡ verdict_of (accepted verdict_of l) x
unfolding economizer_verdict verdict_after
verdict_reads x l = rw (last_reads l)

-- enable and delays among the signals of an accepted row, after the rows l, refused ones too, are those read off the accepted rows
pub signals_read : (x : EconomizerRow) (l : List EconomizerRow) → verdict_of (accepted verdict_of l) x ≡ Ok tt
    → reading_in (economizer_signals (state_after economizer_returned economizer_fresh l) x) ≡ economizer_reading (x ∷ accepted verdict_of l)
signals_read = runs_read.reads

-- and at every place of it: place i tells the refusal that fits row i, or what is read off the accepted ones of rows 0 to i
pub economizer_demand_3_at : (other : Told EconomizerReading) (rows : List EconomizerRow) (i : ℕ) → i < length rows
    → get_or (run economizer_told economizer_returned economizer_fresh rows) i other ≡ read_newest verdict_of economizer_reading other (reverse (take (suc i) rows))
economizer_demand_3_at other rows i l = rw (economizer_demand_3 rows) (read_at_lem verdict_of economizer_reading other [] rows i l)
