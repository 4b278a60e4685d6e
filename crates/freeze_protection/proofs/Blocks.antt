-- Freeze protection's state as a function of the past: each block is what is read off the past for it, and the two loops are stepped over the rows.
-- One row further the signals are the readings, and the next state is the state of the longer past. Assumes nothing.
use Rattle.std.specs.Prelude.{None, Some}
use mathlib.Core.Path.{◌≡◌, refl}
use mathlib.Core.Bool.{Bool, true, false, ◌||◌}
use mathlib.Core.List.{[], ◌∷◌}
use lib.Dec.{T}
use lib.Ieee.{Float, binary64, add, sub, lt, le, of_bits, is_nan}
use Rattle.reals.specs.Constants.{plus_zero}
use Rattle.reals.specs.Order.{greater}
use Rattle.reals.specs.Switch.{switch}
use Rattle.reals.specs.declared.threshold.ThresholdMode.TheVariants.{Greater, Less}
use Rattle.reals.specs.declared.pid.PidState.{PidState}
use Rattle.reals.specs.Threshold.{threshold_output}
use Rattle.reals.specs.Pid.{pid_new, pid_output, pid_update}
use Rattle.logical.specs.declared.held_timer.HeldTimerState.{HeldTimerState}
use Rattle.logical.specs.Edge.{edge_output}
use Rattle.logical.specs.HourTimer.{hour_timer, hour_timer_new, hour_timer_output, hour_timer_update}
use Rattle.logical.specs.TrueFalseHold.{true_false_hold_output}
use Rattle.past.specs.Past.{rises, latched}
use Rattle.past.specs.Runs.{time_of}
use Rattle.past.specs.Acceptance.{last_time}
use Rattle.past.specs.Stepped.{stepped, in_order}
use Rattle.past.proofs.Laws.{since_none}
use Rattle.past.proofs.RunLaws.{passed_none}
use Rattle.past.proofs.LapseLaws.{lapsed_none, lapses_none}
use Rattle.past.proofs.TurnLaws.{hold_none}
use Rattle.past.proofs.LevelReading.{threshold_of, threshold_new_lem, threshold_output_lem, threshold_update_lem}
use Rattle.past.proofs.LatchReading.{edge_of, edge_new_lem, edge_output_lem, edge_update_lem, latch_of, latch_new_lem, latch_output_lem, latch_update_lem}
use Rattle.past.proofs.TimerReading.{held_timer_of, held_timer_new_lem, held_timer_output_lem, held_timer_update_lem}
use Rattle.past.proofs.RunOnReading.{run_on_timer_of, run_on_timer_new, run_on_timer_output_lem, run_on_timer_update_lem, lapse_output}
use Rattle.past.proofs.HoldReading.{true_false_hold_of, true_false_hold_new_lem, true_false_hold_output_lem, true_false_hold_update_lem}
use Rattle.freeze_protection.specs.declared.types.FreezeRow.{FreezeRow}
use Rattle.freeze_protection.specs.declared.types.FreezeState.{FreezeState}
use Rattle.freeze_protection.specs.declared.types.FreezeCalls.{FreezeCalls}
use Rattle.freeze_protection.specs.declared.types.FreezeSignals.{FreezeSignals}
use Rattle.freeze_protection.specs.Constants.{cold_stage1, cold_stage2, cold_stage3, warm_level, band, five_minutes, fifteen_minutes, hour, stage1_setpoint, stage3_setpoint}
use Rattle.freeze_protection.specs.Signals.{freeze_calls, freeze_signals, stage_number}
use Rattle.freeze_protection.specs.Step.{freeze_start, freeze_next}
use Rattle.freeze_protection.specs.Reading.{Past, time_of_row, supply_of, reset_row, cold, warm, passed_for, timed_for, holding, end_of_hour, end_of_hour_kept, recovery, stage1_call_by, stage3_call, stage_by, end_of_hour_from, stage_from, hour_from}

-- ---- nothing is true before row 0
pub cold_none : (l : Float) → cold l [] ≡ false
unfolding cold
cold_none l = since_none (λ s. lt (supply_of s) (add binary64 l band)) (λ s. lt (supply_of s) l)

pub warm_none : warm [] ≡ false
unfolding warm
warm_none = since_none (λ s. lt (sub binary64 warm_level band) (supply_of s)) (λ s. lt warm_level (supply_of s))

pub holding_none : holding [] ≡ false
unfolding holding
holding_none = hold_none time_of_row hour plus_zero (passed_for five_minutes (cold cold_stage2))

pub hour_none : passed_for hour holding [] ≡ false
hour_none = passed_none time_of_row holding holding_none hour

pub warm_passed_none : passed_for five_minutes warm [] ≡ false
warm_passed_none = passed_none time_of_row warm warm_none five_minutes

-- the hour's mark and its end, from either start
pub hour_mark_none : (k : Bool) → (hour_from k []).passed ≡ false
hour_mark_none true = lapsed_none time_of_row holding holding_none hour
hour_mark_none false = hour_none

pub end_none : (k : Bool) → end_of_hour_from k [] ≡ false
end_none true = unfold end_of_hour_kept in lapses_none time_of_row holding holding_none hour
end_none false = unfold end_of_hour rises in rw hour_none refl

pub call1_none : (k : Bool) → stage1_call_by (end_of_hour_from k) [] ≡ false
unfolding stage1_call_by
call1_none k = rw (passed_none time_of_row (cold cold_stage1) (cold_none cold_stage1) five_minutes, end_none k) refl

pub call3_none : stage3_call [] ≡ false
unfolding stage3_call
call3_none = rw (passed_none time_of_row (cold cold_stage2) (cold_none cold_stage2) fifteen_minutes, passed_none time_of_row (cold cold_stage3) (cold_none cold_stage3) five_minutes) refl

-- ---- the constants: delays above 0, bands on the right side
pub five_positive : le five_minutes plus_zero ≡ false
unfolding le of_bits
five_positive = refl

pub fifteen_positive : le fifteen_minutes plus_zero ≡ false
unfolding le of_bits
fifteen_positive = refl

pub hour_positive : le hour plus_zero ≡ false
unfolding le of_bits
hour_positive = refl

hour_kept : greater hour plus_zero ≡ hour
unfolding greater switch lt is_nan of_bits
hour_kept = refl

zero_kept : greater plus_zero plus_zero ≡ plus_zero
unfolding greater switch lt is_nan of_bits
zero_kept = refl

band1 : T (le cold_stage1 (add binary64 cold_stage1 band))
unfolding le add of_bits
band1 = tt

band2 : T (le cold_stage2 (add binary64 cold_stage2 band))
unfolding le add of_bits
band2 = tt

band3 : T (le cold_stage3 (add binary64 cold_stage3 band))
unfolding le add of_bits
band3 = tt

band_warm : T (le (sub binary64 warm_level band) warm_level)
unfolding le sub of_bits
band_warm = tt

-- ---- stage 2's hour: all that the two starts differ in. k: stage 2 keeps to its hour
-- its timer after a past
abbrev pub hour_timer_of : Bool → Past → HeldTimerState
hour_timer_of true h = run_on_timer_of time_of_row hour holding holding_none hour_positive h
hour_timer_of false h = held_timer_of time_of_row hour holding holding_none hour_positive h

hour_new : (k : Bool) → hour_timer_new hour k ≡ hour_timer k (hour_timer_of k [])
unfolding hour_timer_new
hour_new true = rw (run_on_timer_new time_of_row hour holding holding_none hour_positive) refl
hour_new false = rw (held_timer_new_lem time_of_row hour holding holding_none hour_positive) refl

hour_output : (k : Bool) (x : FreezeRow) (h : Past) → hour_timer_output (hour_timer k (hour_timer_of k h)) x.time (holding (x ∷ h)) ≡ hour_from k (x ∷ h)
unfolding hour_timer_output
hour_output true x h = run_on_timer_output_lem time_of_row hour holding holding_none hour_positive x h
hour_output false x h = held_timer_output_lem time_of_row hour holding holding_none hour_positive x h

hour_update : (k : Bool) (x : FreezeRow) (h : Past) → hour_timer_update (hour_timer k (hour_timer_of k h)) x.time (holding (x ∷ h)) ≡ hour_timer k (hour_timer_of k (x ∷ h))
unfolding hour_timer_update
hour_update true x h = λ i. hour_timer true (run_on_timer_update_lem time_of_row hour holding holding_none hour_positive x h i)
hour_update false x h = λ i. hour_timer false (held_timer_update_lem time_of_row hour holding holding_none hour_positive x h i)

-- the edge on its mark is the end of hour
abbrev hour_mark : Bool → Past → Bool
hour_mark k h = (hour_from k h).passed

hour_edge : (k : Bool) (x : FreezeRow) (h : Past) → edge_output (edge_of (hour_mark k) h) (hour_mark k (x ∷ h)) ≡ end_of_hour_from k (x ∷ h)
hour_edge true x h = unfold end_of_hour_kept in lapse_output time_of_row hour holding holding_none hour_positive x h
hour_edge false x h = unfold end_of_hour in edge_output_lem (passed_for hour holding) hour_none x h

pub hour_threshold : (k : Bool) (h : Past) → (hour_timer_of k h).threshold ≡ hour
hour_threshold true h = refl
hour_threshold false h = refl

-- ---- the two loops, stepped over the rows
abbrev pub heat_stage1 : Past → PidState
heat_stage1 h = stepped pid_new (λ s p. pid_update s (time_of time_of_row p) stage1_setpoint (supply_of p)) h

-- the warmer of supply and mixed air
abbrev pub warmer_of : Past → Float
warmer_of [] = plus_zero
warmer_of (x ∷ h) = greater x.supply_air_temperature x.mixed_air_temperature

abbrev pub heat_stage3 : Past → PidState
heat_stage3 h = stepped pid_new (λ s p. pid_update s (time_of time_of_row p) stage3_setpoint (warmer_of p)) h

-- the readings of the signals at the newest row
abbrev pub calls_of : Past → FreezeCalls
calls_of h = record {
  les_thr_y = cold cold_stage1 h;
  tim = timed_for five_minutes (cold cold_stage1) h;
  gre_thr_y = warm h;
  tim1 = timed_for five_minutes warm h;
  end_sta_one_y = recovery h;
  les_thr1_y = cold cold_stage2 h;
  tim2 = timed_for five_minutes (cold cold_stage2) h;
  hol_sta2_y = holding h;
  tim3 = timed_for fifteen_minutes (cold cold_stage2) h;
  les_thr2_y = cold cold_stage3 h;
  tim4 = timed_for five_minutes (cold cold_stage3) h;
}

-- ---- the state of a past, from either start
module _ (k : Bool) where
  abbrev pub state_of : Past → FreezeState
  state_of h = record {
    last = last_time time_of_row h;
    les_thr = threshold_of supply_of Less cold_stage1 band h;
    tim = held_timer_of time_of_row five_minutes (cold cold_stage1) (cold_none cold_stage1) five_positive h;
    hea_coil_stage_1 = heat_stage1 h;
    gre_thr = threshold_of supply_of Greater warm_level band h;
    lat = latch_of (stage1_call_by (end_of_hour_from k)) recovery h;
    tim1 = held_timer_of time_of_row five_minutes warm warm_none five_positive h;
    end_sta_one = edge_of (passed_for five_minutes warm) h;
    les_thr1 = threshold_of supply_of Less cold_stage2 band h;
    tim2 = held_timer_of time_of_row five_minutes (cold cold_stage2) (cold_none cold_stage2) five_positive h;
    hol_sta2 = true_false_hold_of time_of_row hour plus_zero (passed_for five_minutes (cold cold_stage2)) h;
    tim3 = held_timer_of time_of_row fifteen_minutes (cold cold_stage2) (cold_none cold_stage2) fifteen_positive h;
    les_thr2 = threshold_of supply_of Less cold_stage3 band h;
    tim4 = held_timer_of time_of_row five_minutes (cold cold_stage3) (cold_none cold_stage3) five_positive h;
    lat1 = latch_of stage3_call reset_row h;
    hea_coil_stage_3 = heat_stage3 h;
    tim5 = hour_timer k (hour_timer_of k h);
    lat2 = latch_of holding (end_of_hour_from k) h;
    end_sta_two = edge_of (hour_mark k) h;
  }

  -- the signals at the row x after the past h: the readings; the loops are not read, and keep their outputs
  abbrev pub signals_of : FreezeRow → Past → FreezeSignals
  signals_of x h = record {
    calls = calls_of (x ∷ h);
    or8_y = stage3_call (x ∷ h);
    lat1_y = latched stage3_call reset_row (x ∷ h);
    tim5 = hour_from k (x ∷ h);
    end_sta_two_y = end_of_hour_from k (x ∷ h);
    lat2_y = latched holding (end_of_hour_from k) (x ∷ h);
    or2_y = stage1_call_by (end_of_hour_from k) (x ∷ h);
    lat_y = latched (stage1_call_by (end_of_hour_from k)) recovery (x ∷ h);
    stage = stage_from k (x ∷ h);
    stage_1_heat = pid_output (heat_stage1 h) stage1_setpoint x.supply_air_temperature;
    stage_3_measurement = warmer_of (x ∷ h);
    stage_3_heat = pid_output (heat_stage3 h) stage3_setpoint (warmer_of (x ∷ h));
  }

  pub start_is : freeze_start k ≡ state_of []
  unfolding freeze_start
  start_is = λ i. record {
    last = None;
    les_thr = threshold_new_lem supply_of Less cold_stage1 band i;
    tim = held_timer_new_lem time_of_row five_minutes (cold cold_stage1) (cold_none cold_stage1) five_positive i;
    hea_coil_stage_1 = pid_new;
    gre_thr = threshold_new_lem supply_of Greater warm_level band i;
    lat = latch_new_lem (stage1_call_by (end_of_hour_from k)) recovery (call1_none k) i;
    tim1 = held_timer_new_lem time_of_row five_minutes warm warm_none five_positive i;
    end_sta_one = edge_new_lem (passed_for five_minutes warm) warm_passed_none i;
    les_thr1 = threshold_new_lem supply_of Less cold_stage2 band i;
    tim2 = held_timer_new_lem time_of_row five_minutes (cold cold_stage2) (cold_none cold_stage2) five_positive i;
    hol_sta2 = true_false_hold_new_lem time_of_row hour plus_zero (passed_for five_minutes (cold cold_stage2)) i;
    tim3 = held_timer_new_lem time_of_row fifteen_minutes (cold cold_stage2) (cold_none cold_stage2) fifteen_positive i;
    les_thr2 = threshold_new_lem supply_of Less cold_stage3 band i;
    tim4 = held_timer_new_lem time_of_row five_minutes (cold cold_stage3) (cold_none cold_stage3) five_positive i;
    lat1 = latch_new_lem stage3_call reset_row call3_none i;
    hea_coil_stage_3 = pid_new;
    tim5 = hour_new k i;
    lat2 = latch_new_lem holding (end_of_hour_from k) holding_none i;
    end_sta_two = edge_new_lem (hour_mark k) (hour_mark_none k) i;
  }

  -- ---- one row further
  module _ (x : FreezeRow) (h : Past) (o : T (in_order time_of_row (x ∷ h))) where
    cold_out : (l : Float) → T (le l (add binary64 l band)) → threshold_output (threshold_of supply_of Less l band h) x.supply_air_temperature ≡ cold l (x ∷ h)
    unfolding cold
    cold_out l b = threshold_output_lem supply_of Less l band b x h

    warm_out : threshold_output (threshold_of supply_of Greater warm_level band h) x.supply_air_temperature ≡ warm (x ∷ h)
    unfolding warm
    warm_out = threshold_output_lem supply_of Greater warm_level band band_warm x h

    hold_out : true_false_hold_output (true_false_hold_of time_of_row hour plus_zero (passed_for five_minutes (cold cold_stage2)) h) x.time (passed_for five_minutes (cold cold_stage2) (x ∷ h)) ≡ holding (x ∷ h)
    unfolding holding
    hold_out = true_false_hold_output_lem time_of_row hour plus_zero (passed_for five_minutes (cold cold_stage2)) hour_kept zero_kept x h o

    recovery_out : edge_output (edge_of (passed_for five_minutes warm) h) (passed_for five_minutes warm (x ∷ h)) ≡ recovery (x ∷ h)
    unfolding recovery
    recovery_out = edge_output_lem (passed_for five_minutes warm) warm_passed_none x h

    calls_read : freeze_calls (state_of h) x ≡ calls_of (x ∷ h)
    unfolding freeze_calls
    calls_read = rw (
      cold_out cold_stage1 band1,
      cold_out cold_stage2 band2,
      cold_out cold_stage3 band3,
      warm_out,
      held_timer_output_lem time_of_row five_minutes (cold cold_stage1) (cold_none cold_stage1) five_positive x h,
      held_timer_output_lem time_of_row five_minutes warm warm_none five_positive x h,
      held_timer_output_lem time_of_row five_minutes (cold cold_stage2) (cold_none cold_stage2) five_positive x h,
      held_timer_output_lem time_of_row fifteen_minutes (cold cold_stage2) (cold_none cold_stage2) fifteen_positive x h,
      held_timer_output_lem time_of_row five_minutes (cold cold_stage3) (cold_none cold_stage3) five_positive x h,
      recovery_out,
      hold_out,
    ) refl

    call3_is : (passed_for fifteen_minutes (cold cold_stage2) (x ∷ h) || passed_for five_minutes (cold cold_stage3) (x ∷ h)) ≡ stage3_call (x ∷ h)
    unfolding stage3_call
    call3_is = refl

    call1_is : (passed_for five_minutes (cold cold_stage1) (x ∷ h) || end_of_hour_from k (x ∷ h)) ≡ stage1_call_by (end_of_hour_from k) (x ∷ h)
    unfolding stage1_call_by
    call1_is = refl

    stage_is :
        stage_number (latched stage3_call reset_row (x ∷ h)) (latched holding (end_of_hour_from k) (x ∷ h)) (latched (stage1_call_by (end_of_hour_from k)) recovery (x ∷ h))
        ≡ stage_from k (x ∷ h)
    unfolding stage_by stage_number
    stage_is = refl

    pub signals_read : freeze_signals (state_of h) x ≡ signals_of x h
    unfolding freeze_signals
    signals_read = rw (
      calls_read,
      call3_is,
      latch_output_lem stage3_call reset_row call3_none x h,
      hour_output k x h,
      hour_edge k x h,
      latch_output_lem holding (end_of_hour_from k) holding_none x h,
      call1_is,
      latch_output_lem (stage1_call_by (end_of_hour_from k)) recovery (call1_none k) x h,
      stage_is,
    ) refl

    pub next_reads : freeze_next (state_of h) x (signals_of x h) ≡ state_of (x ∷ h)
    unfolding freeze_next
    next_reads = λ i. record {
      last = Some x.time;
      les_thr = threshold_update_lem supply_of Less cold_stage1 band band1 x h i;
      tim = held_timer_update_lem time_of_row five_minutes (cold cold_stage1) (cold_none cold_stage1) five_positive x h i;
      hea_coil_stage_1 = heat_stage1 (x ∷ h);
      gre_thr = threshold_update_lem supply_of Greater warm_level band band_warm x h i;
      lat = latch_update_lem (stage1_call_by (end_of_hour_from k)) recovery (call1_none k) x h i;
      tim1 = held_timer_update_lem time_of_row five_minutes warm warm_none five_positive x h i;
      end_sta_one = edge_update_lem (passed_for five_minutes warm) warm_passed_none x h i;
      les_thr1 = threshold_update_lem supply_of Less cold_stage2 band band2 x h i;
      tim2 = held_timer_update_lem time_of_row five_minutes (cold cold_stage2) (cold_none cold_stage2) five_positive x h i;
      hol_sta2 = true_false_hold_update_lem time_of_row hour plus_zero (passed_for five_minutes (cold cold_stage2)) hour_kept zero_kept x h o i;
      tim3 = held_timer_update_lem time_of_row fifteen_minutes (cold cold_stage2) (cold_none cold_stage2) fifteen_positive x h i;
      les_thr2 = threshold_update_lem supply_of Less cold_stage3 band band3 x h i;
      tim4 = held_timer_update_lem time_of_row five_minutes (cold cold_stage3) (cold_none cold_stage3) five_positive x h i;
      lat1 = latch_update_lem stage3_call reset_row call3_none x h i;
      hea_coil_stage_3 = heat_stage3 (x ∷ h);
      tim5 = hour_update k x h i;
      lat2 = latch_update_lem holding (end_of_hour_from k) holding_none x h i;
      end_sta_two = edge_update_lem (hour_mark k) (hour_mark_none k) x h i;
    }
