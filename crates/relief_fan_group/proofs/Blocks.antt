-- The relief fan group's state as a function of the past: the moving average and the blocks are stepped over the rows, and the blocks of the two pulses are the
-- readings. Assumes nothing.
use mathlib.Core.Path.{◌≡◌, refl, ap, ◌∙◌}
use mathlib.Core.Bool.{Bool, false, not, ◌&&◌}
use mathlib.Core.List.{[], ◌∷◌}
use lib.Dec.{T}
use lib.Ieee.{Float, add, sub, le, of_bits}
use Rattle.reals.specs.Constants.{plus_zero}
use Rattle.reals.specs.declared.threshold.ThresholdMode.TheVariants.{Greater, Less}
use Rattle.reals.specs.declared.threshold.ThresholdState.{ThresholdState}
use Rattle.reals.specs.Threshold.{threshold_output, threshold_update}
use Rattle.logical.specs.declared.pre.PreState.{PreState}
use Rattle.logical.specs.declared.present_timer.PresentTimerState.{PresentTimerState}
use Rattle.logical.specs.declared.timer.TimerOutput.{TimerOutput}
use Rattle.logical.specs.Pre.{pre_output, pre_update}
use Rattle.logical.specs.PresentTimer.{present_timer_output, present_timer_update}
use Rattle.past.specs.Stepped.{in_order}
use Rattle.past.specs.Runs.{present_timer}
use Rattle.past.specs.Turns.{pulse}
use Rattle.past.specs.Acceptance.{last_time}
use Rattle.past.proofs.Stepped.{order_before, finite_here}
use Rattle.past.proofs.TurnLaws.{gate}
use Rattle.past.proofs.Laws.{since_none}
use Rattle.past.proofs.LevelReading.{near, far, band, threshold_of, threshold_new_lem, threshold_output_lem, threshold_update_lem}
use Rattle.past.proofs.TimerReading.{present_timer_of, present_timer_new_lem, present_timer_output_lem, present_timer_update_lem}
use Rattle.moving_average.specs.Past.{moving_average_of}
use Rattle.relief_fan_group.specs.declared.types.ReliefRow.{ReliefRow}
use Rattle.relief_fan_group.specs.declared.types.ReliefBlocks.{ReliefBlocks}
use Rattle.relief_fan_group.specs.declared.types.ReliefState.{ReliefState}
use Rattle.relief_fan_group.specs.declared.types.ReliefSignals.{ReliefSignals}
use Rattle.relief_fan_group.specs.Constants.{min_speed, stage_up_level, damper_shut, hys, damper_shut_time, stage_up_time, stage_down_time}
use Rattle.relief_fan_group.specs.Signals.{pressure_loop, pressure_control, damper_enable, stage_up, stage_down, relief_signals}
use Rattle.relief_fan_group.specs.Step.{relief_blocks, relief_fresh, relief_next, signals_at}
use Rattle.relief_fan_group.specs.Reading.{Past, time_of_row, pressure_of_row, mean, loop_of, up_pulse, down_pulse}
use Rattle.relief_fan_group.specs.Blocks.{blocks_of, signals_of}
use Rattle.relief_fan_group.specs.Left.{relief_left, timers_of, shut_request, up_waits, down_waits, timed_for, timers_read}
use Rattle.relief_fan_group.proofs.Pulses.{Way, request, gate_of, Reads, begins, gate_reads, timer_reads, pulse_reads, one_further}

-- ---- the state of a past
abbrev pub state_of : Past → ReliefState
state_of h = record { window = moving_average_of time_of_row pressure_of_row h; blocks = blocks_of h }

-- its signals at a row
pub signals_are : (x : ReliefRow) (h : Past) → signals_at (state_of h) x ≡ signals_of x h
unfolding signals_at mean
signals_are x h = refl

pub fresh_is : relief_fresh ≡ state_of []
unfolding relief_fresh blocks_of moving_average_of
fresh_is = refl

pub last_reads : (h : Past) → (blocks_of h).last ≡ last_time time_of_row h
unfolding blocks_of
last_reads [] = unfold relief_blocks in refl
last_reads (x ∷ h) = unfold relief_next in refl

pub before : (x : ReliefRow) (h : Past) → T (in_order time_of_row (x ∷ h)) → T (in_order time_of_row h)
before x h o = order_before time_of_row x h o

-- ---- the two ways of staging: delays above 0, bands on the right side
pub up_positive : le stage_up_time plus_zero ≡ false
unfolding le of_bits
up_positive = refl

pub down_positive : le stage_down_time plus_zero ≡ false
unfolding le of_bits
down_positive = refl

pub up_band : T (band Greater stage_up_level hys)
unfolding le sub add of_bits
up_band = tt

pub down_band : T (band Less min_speed hys)
unfolding le add of_bits
down_band = tt

abbrev pub up_way : Way
up_way = record { mode = Greater; level = stage_up_level; hysteresis = hys; seconds = stage_up_time; banded = up_band; positive = up_positive }

abbrev pub down_way : Way
down_way = record { mode = Less; level = min_speed; hysteresis = hys; seconds = stage_down_time; banded = down_band; positive = down_positive }

-- the pulse of a way, by its blocks and signals: a threshold, a timer and a pre, each with the input that the sequence gives it
pub record Side (w : Way) : Type 0 where
  pub thr : ReliefBlocks → ThresholdState
  pub tim : ReliefBlocks → PresentTimerState
  pub pre : ReliefBlocks → PreState
  pub gate : ReliefSignals → Bool
  pub timer : ReliefSignals → TimerOutput
  pub starts : Reads time_of_row loop_of w (thr relief_blocks) (tim relief_blocks) (pre relief_blocks) []
  pub gate_is : (b : ReliefBlocks) (x : ReliefRow) (a : Float) → gate (relief_signals b x a) ≡ (threshold_output (thr b) (pressure_loop a) && pre_output (pre b))
  pub timer_is : (b : ReliefBlocks) (x : ReliefRow) (a : Float) → timer (relief_signals b x a) ≡ present_timer_output (tim b) x.time (gate (relief_signals b x a))
  pub thr_next : (b : ReliefBlocks) (x : ReliefRow) (a : Float) → thr (relief_next b x (relief_signals b x a)) ≡ threshold_update (thr b) (pressure_loop a)
  pub tim_next : (b : ReliefBlocks) (x : ReliefRow) (g : ReliefSignals) → tim (relief_next b x g) ≡ present_timer_update (tim b) x.time (gate g)
  pub pre_next : (b : ReliefBlocks) (x : ReliefRow) (g : ReliefSignals) → pre (relief_next b x g) ≡ pre_update (pre b) (not (timer g).passed)

module _ (w : Way) (s : Side w) where
  abbrev pub on : Past → Bool
  on h = pulse time_of_row w.seconds (request time_of_row loop_of w) h

  abbrev At : ReliefBlocks → Past → Type 0
  At b h = Reads time_of_row loop_of w (s.thr b) (s.tim b) (s.pre b) h

  module _ (b : ReliefBlocks) (x : ReliefRow) (h : Past) (r : At b h) (o : T (in_order time_of_row (x ∷ h))) where
    abbrev here : ReliefSignals
    here = relief_signals b x (mean (x ∷ h))

    gate_here : s.gate here ≡ gate_of time_of_row loop_of w (x ∷ h)
    gate_here = s.gate_is b x (mean (x ∷ h)) ∙ gate_reads time_of_row loop_of w (s.thr b) (s.tim b) (s.pre b) x h r

    pub timer_here : s.timer here ≡ present_timer time_of_row w.seconds (gate_of time_of_row loop_of w) (x ∷ h)
    timer_here = s.timer_is b x (mean (x ∷ h)) ∙ timer_reads time_of_row loop_of w (s.thr b) (s.tim b) (s.pre b) x h r (finite_here time_of_row x h o) (s.gate here) gate_here

    pub passed_here : (s.timer here).passed ≡ on (x ∷ h)
    passed_here =
        ap (λ (y : TimerOutput). y.passed) (s.timer_is b x (mean (x ∷ h)))
        ∙ pulse_reads time_of_row loop_of w (s.thr b) (s.tim b) (s.pre b) x h r (finite_here time_of_row x h o) (s.gate here) gate_here

    next_here : At (relief_next b x here) (x ∷ h)
    next_here =
        rw (s.thr_next b x (mean (x ∷ h)), s.tim_next b x here, s.pre_next b x here)
        (one_further time_of_row loop_of w (s.thr b) (s.tim b) (s.pre b) x h r (finite_here time_of_row x h o) (s.gate here) gate_here (s.timer here).passed passed_here)

  -- after every past of accepted rows
  reads : (h : Past) → T (in_order time_of_row h) → At (blocks_of h) h
  unfolding blocks_of
  reads [] o = s.starts
  reads (x ∷ h) o = next_here (blocks_of h) x h (reads h (before x h o)) o

  pub pulse_is : (x : ReliefRow) (h : Past) → T (in_order time_of_row (x ∷ h)) → (s.timer (signals_of x h)).passed ≡ on (x ∷ h)
  pulse_is x h o = passed_here (blocks_of h) x h (reads h (before x h o)) o

  -- the timer's whole answer, and its threshold
  timed : (x : ReliefRow) (h : Past) → T (in_order time_of_row (x ∷ h)) → s.timer (signals_of x h) ≡ present_timer time_of_row w.seconds (gate_of time_of_row loop_of w) (x ∷ h)
  timed x h o = timer_here (blocks_of h) x h (reads h (before x h o)) o

  seconds_are : (h : Past) → T (in_order time_of_row h) → (s.tim (blocks_of h)).threshold ≡ w.seconds
  seconds_are h o = ap (λ (t : PresentTimerState). t.threshold) (reads h o).tim_is

unfoldable up_side : Side up_way
unfolding relief_blocks relief_next relief_signals stage_up pressure_control
up_side =
    record {
      thr = λ b. b.gre_thr2;
      tim = λ b. b.up_tim;
      pre = λ b. b.pre;
      gate = λ g. g.up.up_gate;
      timer = λ g. g.up.up_tim;
      starts = begins time_of_row loop_of up_way _ (threshold_new_lem loop_of Greater stage_up_level hys);
      gate_is = λ b x a. refl;
      timer_is = λ b x a. refl;
      thr_next = λ b x a. refl;
      tim_next = λ b x g. refl;
      pre_next = λ b x g. refl;
    }

unfoldable down_side : Side down_way
unfolding relief_blocks relief_next relief_signals stage_down pressure_control
down_side =
    record {
      thr = λ b. b.les_thr3;
      tim = λ b. b.dow_tim;
      pre = λ b. b.pre1;
      gate = λ g. g.down.down_gate;
      timer = λ g. g.down.dow_tim;
      starts = begins time_of_row loop_of down_way _ (threshold_new_lem loop_of Less min_speed hys);
      gate_is = λ b x a. refl;
      timer_is = λ b x a. refl;
      thr_next = λ b x a. refl;
      tim_next = λ b x g. refl;
      pre_next = λ b x g. refl;
    }

-- both pulses among the signals are the readings
pub up_pulse_lem : (x : ReliefRow) (h : Past) → T (in_order time_of_row (x ∷ h)) → (signals_of x h).up.up_tim.passed ≡ up_pulse (x ∷ h)
unfolding up_side
up_pulse_lem x h o = pulse_is up_way up_side x h o

pub down_pulse_lem : (x : ReliefRow) (h : Past) → T (in_order time_of_row (x ∷ h)) → (signals_of x h).down.dow_tim.passed ≡ down_pulse (x ∷ h)
unfolding down_side
down_pulse_lem x h o = pulse_is down_way down_side x h o

-- ---- the three timers as a display shows them: their whole answers, and what is left
pub shut_band : T (band Less damper_shut hys)
unfolding le add of_bits
shut_band = tt

pub shut_positive : le damper_shut_time plus_zero ≡ false
unfolding le of_bits
shut_positive = refl

shut_none : shut_request [] ≡ false
shut_none = since_none {A = ReliefRow} (λ s. far Less damper_shut hys (loop_of s)) (λ s. near Less damper_shut (loop_of s))

module _ (b : ReliefBlocks) (x : ReliefRow) (a : Float) where
  shut_thr_next : (relief_next b x (relief_signals b x a)).les_thr ≡ threshold_update b.les_thr (pressure_loop a)
  unfolding relief_next relief_signals pressure_control
  shut_thr_next = refl

  shut_tim_next : (relief_next b x (relief_signals b x a)).tim ≡ present_timer_update b.tim x.time (threshold_output b.les_thr (pressure_loop a))
  unfolding relief_next relief_signals damper_enable pressure_control
  shut_tim_next = refl

  shut_tim_is : (relief_signals b x a).dampers.tim ≡ present_timer_output b.tim x.time (threshold_output b.les_thr (pressure_loop a))
  unfolding relief_signals damper_enable pressure_control
  shut_tim_is = refl

shut_thr : (h : Past) → (blocks_of h).les_thr ≡ threshold_of loop_of Less damper_shut hys h
unfolding blocks_of
shut_thr [] = unfold relief_blocks in threshold_new_lem loop_of Less damper_shut hys
shut_thr (x ∷ h) = shut_thr_next (blocks_of h) x (mean (x ∷ h)) ∙ rw (shut_thr h) (threshold_update_lem loop_of Less damper_shut hys shut_band x h)

shut_tim : (h : Past) → (blocks_of h).tim ≡ present_timer_of time_of_row damper_shut_time shut_request shut_none shut_positive h
unfolding blocks_of
shut_tim [] = unfold relief_blocks in present_timer_new_lem time_of_row damper_shut_time shut_request shut_none shut_positive
shut_tim (x ∷ h) =
    shut_tim_next (blocks_of h) x (mean (x ∷ h))
    ∙ rw (shut_tim h, shut_thr h, threshold_output_lem loop_of Less damper_shut hys shut_band x h) (present_timer_update_lem time_of_row damper_shut_time shut_request shut_none shut_positive x h)

module _ (x : ReliefRow) (h : Past) (o : T (in_order time_of_row (x ∷ h))) where
  shut_timed : (signals_of x h).dampers.tim ≡ timed_for damper_shut_time shut_request (x ∷ h)
  shut_timed =
      shut_tim_is (blocks_of h) x (mean (x ∷ h))
      ∙ rw (shut_tim h, shut_thr h, threshold_output_lem loop_of Less damper_shut hys shut_band x h)
      (present_timer_output_lem time_of_row damper_shut_time shut_request shut_none shut_positive x h (finite_here time_of_row x h o))

  up_timed : (signals_of x h).up.up_tim ≡ timed_for stage_up_time up_waits (x ∷ h)
  unfolding up_side gate
  up_timed = timed up_way up_side x h o

  down_timed : (signals_of x h).down.dow_tim ≡ timed_for stage_down_time down_waits (x ∷ h)
  unfolding down_side gate
  down_timed = timed down_way down_side x h o

  up_seconds : (blocks_of h).up_tim.threshold ≡ stage_up_time
  unfolding up_side
  up_seconds = seconds_are up_way up_side h (before x h o)

  down_seconds : (blocks_of h).dow_tim.threshold ≡ stage_down_time
  unfolding down_side
  down_seconds = seconds_are down_way down_side h (before x h o)

  pub timers_read_lem : timers_of (blocks_of h) (signals_of x h) ≡ timers_read (x ∷ h)
  unfolding timers_read relief_left
  timers_read_lem = rw (shut_timed, up_timed, down_timed, up_seconds, down_seconds, shut_tim h) refl
