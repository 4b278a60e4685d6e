-- The words of a value stand for the value. Written by tools/words.
use Rattle.std.specs.Prelude.{Float, Option, None, Some}
use mathlib.Core.Path.{◌≡◌, refl}
use Rattle.logical.specs.declared.edge.EdgeState.{EdgeState}
use Rattle.logical.specs.declared.held_timer.HeldTimerState.{HeldTimerState}
use Rattle.logical.specs.declared.hour_timer.HourTimerState.{HourTimerState}
use Rattle.logical.specs.declared.latch.LatchState.{LatchState}
use Rattle.logical.specs.declared.pre.PreState.{PreState}
use Rattle.logical.specs.declared.present_timer.PresentTimerState.{PresentTimerState}
use Rattle.logical.specs.declared.true_delay.TrueDelayState.{TrueDelayState}
use Rattle.logical.specs.declared.true_delay_on_init.TrueDelayOnInitState.{TrueDelayOnInitState}
use Rattle.logical.specs.declared.true_false_hold.TrueFalseHoldState.{TrueFalseHoldState}
use Rattle.moving_average.specs.declared.lent.Integrator.{Integrator}
use Rattle.reals.specs.declared.hysteresis.HysteresisState.{HysteresisState}
use Rattle.reals.specs.declared.pid.PidState.{PidState}
use Rattle.reals.specs.declared.pid_with_reset.PidWithResetState.{PidWithResetState}
use Rattle.reals.specs.declared.threshold.ThresholdMode.TheVariants.{Greater, Less}
use Rattle.reals.specs.declared.threshold.ThresholdMode.{ThresholdMode}
use Rattle.reals.specs.declared.threshold.ThresholdState.{ThresholdState}
use Rattle.block_words.proofs.Elements.{flag_back}
use Rattle.block_words.specs.Edge.{edge_words, edge_of}
use Rattle.block_words.specs.HeldTimer.{held_timer_words, held_timer_of}
use Rattle.block_words.specs.HourTimer.{hour_timer_words, hour_timer_of}
use Rattle.block_words.specs.Hysteresis.{hysteresis_words, hysteresis_of}
use Rattle.block_words.specs.Integrator.{integrator_words, integrator_of}
use Rattle.block_words.specs.Latch.{latch_words, latch_of}
use Rattle.block_words.specs.Pid.{pid_words, pid_of}
use Rattle.block_words.specs.PidWithReset.{pid_with_reset_words, pid_with_reset_of}
use Rattle.block_words.specs.Pre.{pre_words, pre_of}
use Rattle.block_words.specs.PresentTimer.{present_timer_words, present_timer_of}
use Rattle.block_words.specs.Seen.{seen_words, seen_of}
use Rattle.block_words.specs.Threshold.{threshold_words, threshold_of}
use Rattle.block_words.specs.ThresholdMode.{threshold_mode_words, threshold_mode_of}
use Rattle.block_words.specs.TrueDelay.{true_delay_words, true_delay_of}
use Rattle.block_words.specs.TrueDelayOnInit.{true_delay_on_init_words, true_delay_on_init_of}
use Rattle.block_words.specs.TrueFalseHold.{true_false_hold_words, true_false_hold_of}

pub seen_back : (s : Option Float) → seen_of (seen_words s) ≡ s
unfolding seen_of seen_words
seen_back None = refl
seen_back (Some x) = refl

pub threshold_mode_back : (s : ThresholdMode) → threshold_mode_of (threshold_mode_words s) ≡ s
unfolding threshold_mode_of threshold_mode_words
threshold_mode_back Greater = refl
threshold_mode_back Less = refl

pub threshold_back : (s : ThresholdState) → threshold_of (threshold_words s) ≡ s
unfolding threshold_of threshold_words
threshold_back s = λ i. record {
  threshold = s.threshold;
  hysteresis = s.hysteresis;
  previous = flag_back s.previous i;
  mode = threshold_mode_back s.mode i;
}

pub held_timer_back : (s : HeldTimerState) → held_timer_of (held_timer_words s) ≡ s
unfolding held_timer_of held_timer_words
held_timer_back s = λ i. record {
  threshold = s.threshold;
  entry_time = seen_back s.entry_time i;
  prev_u = flag_back s.prev_u i;
  passed = flag_back s.passed i;
}

pub pid_back : (s : PidState) → pid_of (pid_words s) ≡ s
unfolding pid_of pid_words
pid_back s = λ i. record {
  integral = s.integral;
  prev_t = seen_back s.prev_t i;
}

pub latch_back : (s : LatchState) → latch_of (latch_words s) ≡ s
unfolding latch_of latch_words
latch_back s = λ i. record {
  held = flag_back s.held i;
  prev_u = flag_back s.prev_u i;
}

pub edge_back : (s : EdgeState) → edge_of (edge_words s) ≡ s
unfolding edge_of edge_words
edge_back s = λ i. record {
  previous = flag_back s.previous i;
}

pub true_false_hold_back : (s : TrueFalseHoldState) → true_false_hold_of (true_false_hold_words s) ≡ s
unfolding true_false_hold_of true_false_hold_words
true_false_hold_back s = λ i. record {
  held = flag_back s.held i;
  timer = s.timer;
  prev_t = seen_back s.prev_t i;
  true_hold_duration = s.true_hold_duration;
  false_hold_duration = s.false_hold_duration;
}

pub hour_timer_back : (s : HourTimerState) → hour_timer_of (hour_timer_words s) ≡ s
unfolding hour_timer_of hour_timer_words
hour_timer_back s = λ i. record {
  threshold = s.threshold;
  entry_time = seen_back s.entry_time i;
  prev_u = flag_back s.prev_u i;
  passed = flag_back s.passed i;
  runs_on = flag_back s.runs_on i;
}

pub pid_with_reset_back : (s : PidWithResetState) → pid_with_reset_of (pid_with_reset_words s) ≡ s
unfolding pid_with_reset_of pid_with_reset_words
pid_with_reset_back s = λ i. record {
  integral = s.integral;
  prev_t = seen_back s.prev_t i;
  previous_trigger = flag_back s.previous_trigger i;
}

pub hysteresis_back : (s : HysteresisState) → hysteresis_of (hysteresis_words s) ≡ s
unfolding hysteresis_of hysteresis_words
hysteresis_back s = λ i. record {
  previous = flag_back s.previous i;
}

pub true_delay_back : (s : TrueDelayState) → true_delay_of (true_delay_words s) ≡ s
unfolding true_delay_of true_delay_words
true_delay_back s = λ i. record {
  previous_time = seen_back s.previous_time i;
  previous_input = flag_back s.previous_input i;
  held_output = flag_back s.held_output i;
  timer = s.timer;
}

pub integrator_back : (s : Integrator) → integrator_of (integrator_words s) ≡ s
unfolding integrator_of integrator_words
integrator_back s = λ i. record {
  t_start = s.t_start;
  prev_t = seen_back s.prev_t i;
  mu = s.mu;
  count = s.count;
}

pub present_timer_back : (s : PresentTimerState) → present_timer_of (present_timer_words s) ≡ s
unfolding present_timer_of present_timer_words
present_timer_back s = λ i. record {
  threshold = s.threshold;
  entry_time = seen_back s.entry_time i;
  prev_u = flag_back s.prev_u i;
}

pub pre_back : (s : PreState) → pre_of (pre_words s) ≡ s
unfolding pre_of pre_words
pre_back s = λ i. record {
  previous = flag_back s.previous i;
}

pub true_delay_on_init_back : (s : TrueDelayOnInitState) → true_delay_on_init_of (true_delay_on_init_words s) ≡ s
unfolding true_delay_on_init_of true_delay_on_init_words
true_delay_on_init_back s = λ i. record {
  delay_time = s.delay_time;
  entry_time = seen_back s.entry_time i;
  previous_u = flag_back s.previous_u i;
}
