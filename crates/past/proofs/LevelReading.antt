-- Thresholds and the economizer's hysteresis: true since a row that crosses the level, while every later row stays within the band. Assumes nothing.
use mathlib.Core.Path.{◌≡◌, refl, sym, ◌∙◌}
use mathlib.Core.Bool.{Bool, true, false, not, ◌&&◌, ◌||◌}
use mathlib.Core.List.{List, [], ◌∷◌}
use lib.Dec.{T}
use lib.Ieee.{Float, binary64, add, sub, lt, le, of_bits}
use Rattle.reals.specs.Constants.{plus_zero, minus_one}
use Rattle.reals.specs.declared.threshold.ThresholdMode.{ThresholdMode}
use Rattle.reals.specs.declared.threshold.ThresholdMode.TheVariants.{Greater, Less}
use Rattle.reals.specs.declared.threshold.ThresholdState.{ThresholdState}
use Rattle.reals.specs.declared.hysteresis.HysteresisState.{HysteresisState}
use Rattle.reals.specs.Threshold.{crosses, threshold_above, threshold_below, threshold_output, threshold_update}
use Rattle.reals.specs.Hysteresis.{hysteresis_new, hysteresis_output, hysteresis_update}
use Rattle.reals.proofs.FloatOrder.{lt_le, le_lt, lt→le}
use Rattle.past.specs.Past.{since}
use Rattle.past.specs.Stepped.{stepped}
use Rattle.past.proofs.Laws.{since_step, since_none}
use Rattle.past.proofs.Stepped.{stepped_is}

-- a thing that turns true where `near` is, and stays true while `far` is, which `near` implies
crossing : {A : Type 0} (far near : List A → Bool) (x : A) (h : List A) → (T (near (x ∷ h)) → T (far (x ∷ h)))
    → (not (since far near h) && near (x ∷ h) || since far near h && far (x ∷ h)) ≡ since far near (x ∷ h)
crossing far near x h nested = go (near (x ∷ h)) (far (x ∷ h)) (since far near h) nested ∙ sym (since_step far near x h)
  where
    go : (p q b : Bool) → (T p → T q) → (not b && p || b && q) ≡ (p || q && b)
    go true true true i = refl
    go true true false i = refl
    go true false b i = absurd (i tt)
    go false true true i = refl
    go false true false i = refl
    go false false true i = refl
    go false false false i = refl

-- ---- thresholds
-- the level t is crossed; and with the hysteresis h, the band's far side is not left
abbrev pub near : ThresholdMode → Float → Float → Bool
near Greater t w = lt t w
near Less t w = lt w t

abbrev pub far : ThresholdMode → Float → Float → Float → Bool
far Greater t h w = lt (sub binary64 t h) w
far Less t h w = lt w (add binary64 t h)

-- the band lies on the right side of the level
abbrev pub band : ThresholdMode → Float → Float → Bool
band Greater t h = le (sub binary64 t h) t
band Less t h = le t (add binary64 t h)

near→far : (m : ThresholdMode) (t h w : Float) → T (band m t h) → T (near m t w) → T (far m t h w)
near→far Greater t h w b n = le_lt (sub binary64 t h) t w b n
near→far Less t h w b n = lt_le w t (add binary64 t h) n b

-- a fresh block of each mode
abbrev threshold_new : ThresholdMode → Float → Float → ThresholdState
threshold_new Greater t h = threshold_above t h
threshold_new Less t h = threshold_below t h

module _ {A : Type 0} (v : List A → Float) (m : ThresholdMode) (t hy : Float) where
  -- some row's value crosses the level, and every later one up to here stays within the band
  abbrev pub crossed : List A → Bool
  crossed h = since (λ s. far m t hy (v s)) (λ s. near m t (v s)) h

  abbrev pub threshold_of : List A → ThresholdState
  threshold_of h = record { threshold = t; hysteresis = hy; previous = crossed h; mode = m }

  pub threshold_new_lem : threshold_new m t hy ≡ threshold_of []
  threshold_new_lem = rw (since_none {A = A} (λ s. far m t hy (v s)) (λ s. near m t (v s))) (go m)
    where
      go : (m : ThresholdMode) → ◌≡◌ {A = ThresholdState} (threshold_new m t hy) (record { threshold = t; hysteresis = hy; previous = false; mode = m })
      go Greater = unfold threshold_above in refl
      go Less = unfold threshold_below in refl

  module _ (b : T (band m t hy)) (x : A) (h : List A) where
    pub threshold_output_lem : threshold_output (threshold_of h) (v (x ∷ h)) ≡ crossed (x ∷ h)
    unfolding threshold_output crosses
    threshold_output_lem = split m (crossed h) ∙ crossing (λ s. far m t hy (v s)) (λ s. near m t (v s)) x h (near→far m t hy (v (x ∷ h)) b)
      where
        split : (m : ThresholdMode) (p : Bool) → crosses m t hy p (v (x ∷ h)) ≡ (not p && near m t (v (x ∷ h)) || p && far m t hy (v (x ∷ h)))
        split Greater p = refl
        split Less p = refl

    pub threshold_update_lem : threshold_update (threshold_of h) (v (x ∷ h)) ≡ threshold_of (x ∷ h)
    unfolding threshold_update
    threshold_update_lem = rw threshold_output_lem

  -- the block stepped over any list
  pub threshold_reads : T (band m t hy) → (x : A) (h : List A)
      → threshold_output (stepped (threshold_new m t hy) (λ s p. threshold_update s (v p)) h) (v (x ∷ h)) ≡ crossed (x ∷ h)
  threshold_reads b x h = rw (stepped_is (threshold_new m t hy) (λ s p. threshold_update s (v p)) threshold_of threshold_new_lem (threshold_update_lem b) h) (threshold_output_lem b x h)

-- ---- the economizer's hysteresis
module _ {A : Type 0} (v : List A → Float) where
  -- some row's value is above 0, and every later one up to here is at least −1
  abbrev pub raised : List A → Bool
  raised h = since (λ s. le minus_one (v s)) (λ s. lt plus_zero (v s)) h

  abbrev pub hysteresis_of : List A → HysteresisState
  hysteresis_of h = record { previous = raised h }

  pub hysteresis_new_lem : hysteresis_new ≡ hysteresis_of []
  unfolding hysteresis_new
  hysteresis_new_lem = rw (since_none {A = A} (λ s. le minus_one (v s)) (λ s. lt plus_zero (v s))) refl

  below_zero : T (lt minus_one plus_zero)
  unfolding lt of_bits
  below_zero = tt

  module _ (x : A) (h : List A) where
    pub hysteresis_output_lem : hysteresis_output (hysteresis_of h) (v (x ∷ h)) ≡ raised (x ∷ h)
    unfolding hysteresis_output
    hysteresis_output_lem = crossing (λ s. le minus_one (v s)) (λ s. lt plus_zero (v s)) x h (λ n. lt→le minus_one (v (x ∷ h)) (lt_le minus_one plus_zero (v (x ∷ h)) below_zero (lt→le plus_zero (v (x ∷ h)) n)))

    pub hysteresis_update_lem : hysteresis_update (hysteresis_of h) (v (x ∷ h)) ≡ hysteresis_of (x ∷ h)
    unfolding hysteresis_update
    hysteresis_update_lem = rw hysteresis_output_lem

  pub hysteresis_reads : (x : A) (h : List A) → hysteresis_output (stepped hysteresis_new (λ s p. hysteresis_update s (v p)) h) (v (x ∷ h)) ≡ raised (x ∷ h)
  hysteresis_reads x h = rw (stepped_is hysteresis_new (λ s p. hysteresis_update s (v p)) hysteresis_of hysteresis_new_lem hysteresis_update_lem h) (hysteresis_output_lem x h)
