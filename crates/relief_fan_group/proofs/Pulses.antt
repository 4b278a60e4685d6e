-- A threshold, a timer that tests the present row only, and the pre that feeds its pass back: together they are the pulse. Once for both ways.
-- Assumes nothing.
use mathlib.Core.Path.{◌≡◌, refl, sym, ◌∙◌}
use mathlib.Core.Bool.{Bool, true, false, not, ◌&&◌, cond}
use mathlib.Core.List.{List, [], ◌∷◌}
use lib.Dec.{T}
use lib.ListN.{drop}
use lib.Ieee.{Float, binary64, sub, le}
use lib.Ieee.Scale.{finite}
use Rattle.reals.specs.Constants.{plus_zero}
use Rattle.reals.specs.declared.threshold.ThresholdMode.{ThresholdMode}
use Rattle.reals.specs.declared.threshold.ThresholdState.{ThresholdState}
use Rattle.reals.specs.Threshold.{threshold_output, threshold_update}
use Rattle.logical.specs.declared.pre.PreState.{PreState}
use Rattle.logical.specs.declared.present_timer.PresentTimerState.{PresentTimerState}
use Rattle.logical.specs.Pre.{pre_new, pre_output, pre_update}
use Rattle.logical.specs.PresentTimer.{present_timer_new, present_timer_output, present_timer_update}
use Rattle.reals.proofs.Truth.{is_true, is_false, holds, fails}
use Rattle.reals.proofs.Times.{self_gap}
use Rattle.past.specs.Runs.{present_timer}
use Rattle.past.specs.Turns.{values, pulse}
use Rattle.past.proofs.Laws.{since_none}
use Rattle.past.proofs.RunLaws.{last_rise, running_step}
use Rattle.past.proofs.TurnLaws.{gate, pulse_law}
use Rattle.past.proofs.LevelReading.{near, far, band, crossed, threshold_of, threshold_output_lem, threshold_update_lem}
use Rattle.past.proofs.TimerReading.{present_timer_of, present_timer_new_lem, present_timer_output_lem, present_timer_update_lem}

-- one way of staging: the level and the side of it on which a request is made, its hysteresis, and the seconds of requests before a pulse
pub record Way : Type 0 where
  pub mode : ThresholdMode
  pub level : Float
  pub hysteresis : Float
  pub seconds : Float
  pub banded : T (band mode level hysteresis)
  pub positive : le seconds plus_zero ≡ false

-- v is the number read at a row
module _ {A : Type 0} (time : A → Float) (v : List A → Float) (w : Way) where
  abbrev pub request : List A → Bool
  request h = crossed v w.mode w.level w.hysteresis h

  -- a request here, and no pulse on the row before
  abbrev pub gate_of : List A → Bool
  gate_of h = gate time w.seconds request h

  pub gate_none : gate_of [] ≡ false
  unfolding gate
  gate_none = rw (since_none {A = A} (λ s. far w.mode w.level w.hysteresis (v s)) (λ s. near w.mode w.level (v s))) refl

  pub pulse_none : pulse time w.seconds request [] ≡ false
  unfolding pulse values
  pulse_none = refl

  -- the three blocks are those of the past h
  pub record Reads (thr : ThresholdState) (tim : PresentTimerState) (pre : PreState) (h : List A) : Type 0 where
    pub thr_is : thr ≡ threshold_of v w.mode w.level w.hysteresis h
    pub tim_is : tim ≡ present_timer_of time w.seconds gate_of gate_none w.positive h
    pub pre_is : pre ≡ record { previous = not (pulse time w.seconds request h) }

  pub begins : (thr : ThresholdState) → thr ≡ threshold_of v w.mode w.level w.hysteresis [] → Reads thr (present_timer_new w.seconds) (pre_new true) []
  begins thr e = record { thr_is = e; tim_is = present_timer_new_lem time w.seconds gate_of gate_none w.positive; pre_is = unfold pre_new in rw pulse_none refl }

  module _ (thr : ThresholdState) (tim : PresentTimerState) (pre : PreState) (x : A) (h : List A) (r : Reads thr tim pre h) where
    pub gate_reads : (threshold_output thr (v (x ∷ h)) && pre_output pre) ≡ gate_of (x ∷ h)
    unfolding pre_output gate
    gate_reads = rw (r.thr_is, r.pre_is, threshold_output_lem v w.mode w.level w.hysteresis w.banded x h) refl

    module _ (f : T (finite (time x))) (g : Bool) (e : g ≡ gate_of (x ∷ h)) where
      pub timer_reads : present_timer_output tim (time x) g ≡ present_timer time w.seconds gate_of (x ∷ h)
      timer_reads = rw (r.tim_is, e) (present_timer_output_lem time w.seconds gate_of gate_none w.positive x h f)

      pub pulse_reads : (present_timer_output tim (time x) g).passed ≡ pulse time w.seconds request (x ∷ h)
      pulse_reads = rw timer_reads (sym (pulse_law time w.seconds request (x ∷ h)))

      pub one_further : (p : Bool) → p ≡ pulse time w.seconds request (x ∷ h) → Reads (threshold_update thr (v (x ∷ h))) (present_timer_update tim (time x) g) (pre_update pre (not p)) (x ∷ h)
      one_further p q =
          record {
            thr_is = rw r.thr_is (threshold_update_lem v w.mode w.level w.hysteresis w.banded x h);
            tim_is = rw (r.tim_is, e) (present_timer_update_lem time w.seconds gate_of gate_none w.positive x h);
            pre_is = unfold pre_update in rw q refl;
          }

  -- a pulse comes only where there is a request here, and the row before had one too and no pulse before it, and has no pulse itself
  module _ (x : A) (h : List A) (f : T (finite (time x))) (on : pulse time w.seconds request (x ∷ h) ≡ true) where
    gated : (gate_of (x ∷ h) && le w.seconds (sub binary64 (time x) (last_rise time gate_of gate_none (x ∷ h)))) ≡ true
    gated = sym (running_step time gate_of gate_none w.seconds x h) ∙ sym (pulse_law time w.seconds request (x ∷ h)) ∙ on

    pub request_here : request (x ∷ h) ≡ true
    unfolding gate
    request_here = go (request (x ∷ h)) (not (pulse time w.seconds request h)) (le w.seconds (sub binary64 (time x) (last_rise time gate_of gate_none (x ∷ h)))) gated
      where
        go : (a b c : Bool) → ((a && b) && c) ≡ true → a ≡ true
        go true b c e = refl
        go false b c e = e

    pub pulse_alone : pulse time w.seconds request h ≡ false
    unfolding gate
    pulse_alone = go (request (x ∷ h)) (pulse time w.seconds request h) (le w.seconds (sub binary64 (time x) (last_rise time gate_of gate_none (x ∷ h)))) gated
      where
        go : (a b c : Bool) → ((a && not b) && c) ≡ true → b ≡ false
        go a false c e = refl
        go true true c e = sym e
        go false true c e = sym e

    pub gated_before : gate_of h ≡ true
    gated_before = go (gate_of (x ∷ h)) (gate_of h) gated
      where
        go : (a b : Bool) → (a && le w.seconds (sub binary64 (time x) (cond (a && not b) (time x) (last_rise time gate_of gate_none h)))) ≡ true → b ≡ true
        go a true e = refl
        go true false e = sym (rw (self_gap (time x) f) w.positive) ∙ e
        go false false e = e

    pub request_before : request h ≡ true
    unfolding gate
    request_before = go (request h) (not (pulse time w.seconds request (drop 1 h))) gated_before
      where
        go : (a b : Bool) → (a && b) ≡ true → a ≡ true
        go true b e = refl
        go false b e = e

  -- so none comes on row 0
  pub none_on_row_0 : (x : A) → T (finite (time x)) → pulse time w.seconds request (x ∷ []) ≡ false
  none_on_row_0 x f = is_false (pulse time w.seconds request (x ∷ [])) (λ t. fails (gate_of []) gate_none (holds (gate_of []) (gated_before x [] f (is_true (pulse time w.seconds request (x ∷ [])) t))))
