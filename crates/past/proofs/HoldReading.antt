-- The hold, of freeze and of the economizer: its timer is the sum of the gaps since row 0 or its last change, and it reads as `hold`. Assumes nothing.
use mathlib.Core.Path.{◌≡◌, refl, ap, ◌∙◌}
use mathlib.Core.Bool.{Bool, true, false, not, ◌&&◌, ◌||◌, beq, cond}
use mathlib.Core.List.{List, [], ◌∷◌}
use lib.Dec.{T}
use lib.Ieee.{Float, binary64, add, sub, le}
use Rattle.reals.specs.Constants.{plus_zero}
use Rattle.reals.specs.Order.{greater}
use Rattle.reals.specs.Seen.{seen_gap}
use Rattle.reals.specs.Switch.{switch}
use Rattle.reals.proofs.Truth.{table1}
use Rattle.logical.specs.declared.true_false_hold.TrueFalseHoldState.{TrueFalseHoldState}
use Rattle.logical.specs.declared.true_false_hold.TrueFalseHoldOutput.{TrueFalseHoldOutput}
use Rattle.logical.specs.TrueFalseHold.{true_false_hold_new, true_false_hold_required, true_false_hold_output_and_timer, true_false_hold_output, true_false_hold_update}
use Rattle.past.specs.Acceptance.{last_time}
use Rattle.past.specs.Past.{since_with}
use Rattle.past.specs.Runs.{time_of, gaps}
use Rattle.past.specs.Turns.{values, turns, changes, hold_here, hold}
use Rattle.past.specs.Stepped.{stepped, in_order}
use Rattle.past.proofs.Laws.{since_with_step}
use Rattle.past.proofs.Stepped.{stepped_in_order, gap_here}

-- `fall` seconds are required to fall and `rise` to rise, neither below 0
module _ {A : Type 0} (time : A → Float) (fall rise : Float) (u : List A → Bool) where
  abbrev holds : List A → List Bool
  holds h = values (hold_here time fall rise u) h

  abbrev held : List A → Bool
  held h = hold time fall rise u h

  -- the gaps since row 0 or the last change, added in order
  unfoldable pub hold_elapsed : List A → Float
  hold_elapsed [] = plus_zero
  hold_elapsed (x ∷ h) = cond (turns (holds (x ∷ h))) plus_zero (add binary64 (hold_elapsed h) (sub binary64 (time x) (time_of time h)))

  abbrev pub true_false_hold_of : List A → TrueFalseHoldState
  true_false_hold_of h = record { held = held h; timer = hold_elapsed h; prev_t = last_time time h; true_hold_duration = fall; false_hold_duration = rise }

  pub true_false_hold_new_lem : true_false_hold_new fall rise ≡ true_false_hold_of []
  unfolding true_false_hold_new hold values hold_elapsed
  true_false_hold_new_lem = refl

  holds_cons : (x : A) (h : List A) → holds (x ∷ h) ≡ held (x ∷ h) ∷ holds h
  unfolding hold values
  holds_cons x h = refl

  -- what is said of the gaps since the last change is said of `hold_elapsed`
  last_turn : (f : Float → Bool) (x : A) (h : List A) → since_with (λ zs. not (turns zs)) turns (λ k. f (gaps time k (x ∷ h))) (holds (x ∷ h)) ≡ f (hold_elapsed (x ∷ h))
  unfolding gaps hold_elapsed
  last_turn f x [] = unfold values hold_here turns in (since_with_step (λ zs. not (turns zs)) turns (λ k. f (gaps time k (x ∷ []))) (u (x ∷ [])) [] ∙ (unfold since_with Rattle.past.specs.Past.some in table1 (λ a. a || false) (λ a. a) tt (f plus_zero)))
  last_turn f x (z ∷ h) =
      rw (holds_cons x (z ∷ h))
      (since_with_step (λ zs. not (turns zs)) turns (λ k. f (gaps time k (x ∷ (z ∷ h)))) (held (x ∷ (z ∷ h))) (holds (z ∷ h))
      ∙ ap (λ (b : Bool). turns (held (x ∷ (z ∷ h)) ∷ holds (z ∷ h)) && f plus_zero || not (turns (held (x ∷ (z ∷ h)) ∷ holds (z ∷ h))) && b)
      (last_turn (λ g. f (add binary64 g (sub binary64 (time x) (time z)))) z h)
      ∙ go (turns (held (x ∷ (z ∷ h)) ∷ holds (z ∷ h))) (add binary64 (hold_elapsed (z ∷ h)) (sub binary64 (time x) (time z))))
    where
      go : (b : Bool) (g : Float) → (b && f plus_zero || not b && f g) ≡ f (cond b plus_zero g)
      go true g = table1 (λ a. a || false) (λ a. a) tt (f plus_zero)
      go false g = refl

  -- after row 0: a change takes the input
  hold_next : (x z : A) (h : List A)
      → held (x ∷ (z ∷ h))
      ≡ cond (not (beq (u (x ∷ (z ∷ h))) (held (z ∷ h))) && le (cond (held (z ∷ h)) fall rise) (add binary64 (hold_elapsed (z ∷ h)) (sub binary64 (time x) (time z)))) (u (x ∷ (z ∷ h))) (held (z ∷ h))
  hold_next x z h =
      (unfold hold values hold_here changes gaps in ap (λ (b : Bool). cond (not (beq (u (x ∷ (z ∷ h))) (held (z ∷ h))) && b) (u (x ∷ (z ∷ h))) (held (z ∷ h)))
      (last_turn (λ g. le (cond (held (z ∷ h)) fall rise) (add binary64 g (sub binary64 (time x) (time z)))) z h))

  elapsed_next : (x z : A) (h : List A)
      → hold_elapsed (x ∷ (z ∷ h)) ≡ cond (not (beq (held (x ∷ (z ∷ h))) (held (z ∷ h)))) plus_zero (add binary64 (hold_elapsed (z ∷ h)) (sub binary64 (time x) (time z)))
  unfolding hold_elapsed hold values turns
  elapsed_next x z h = refl

  abbrev told : Bool → Float → TrueFalseHoldOutput
  told y t = record { y = y; timer = t }

  module _ (ef : greater fall plus_zero ≡ fall) (er : greater rise plus_zero ≡ rise) where
    required : (b : Bool) → greater (cond b fall rise) plus_zero ≡ cond b fall rise
    required true = ef
    required false = er

    hold_step : (x : A) (h : List A) → T (in_order time (x ∷ h)) → true_false_hold_output_and_timer (true_false_hold_of h) (time x) (u (x ∷ h)) ≡ told (held (x ∷ h)) (hold_elapsed (x ∷ h))
    unfolding true_false_hold_output_and_timer true_false_hold_required switch seen_gap
    hold_step x [] o = unfold hold values hold_here hold_elapsed turns in refl
    hold_step x (z ∷ h) o =
        rw (required (held (z ∷ h)), gap_here time x z h o, elapsed_next x z h, hold_next x z h)
        (go (u (x ∷ (z ∷ h))) (held (z ∷ h)) (le (cond (held (z ∷ h)) fall rise) (add binary64 (hold_elapsed (z ∷ h)) (sub binary64 (time x) (time z)))) (add binary64 (hold_elapsed (z ∷ h)) (sub binary64 (time x) (time z))))
      where
        go : (a w d : Bool) (t : Float)
            → told (cond (not (beq a w) && d) a w) (cond (not (beq a w) && d) plus_zero t)
            ≡ told (cond (not (beq a w) && d) a w) (cond (not (beq (cond (not (beq a w) && d) a w) w)) plus_zero t)
        go true true d t = refl
        go true false true t = refl
        go true false false t = refl
        go false true true t = refl
        go false true false t = refl
        go false false d t = refl

    pub true_false_hold_output_lem : (x : A) (h : List A) → T (in_order time (x ∷ h)) → true_false_hold_output (true_false_hold_of h) (time x) (u (x ∷ h)) ≡ held (x ∷ h)
    unfolding true_false_hold_output
    true_false_hold_output_lem x h o = ap (λ (r : TrueFalseHoldOutput). r.y) (hold_step x h o)

    pub true_false_hold_update_lem : (x : A) (h : List A) → T (in_order time (x ∷ h)) → true_false_hold_update (true_false_hold_of h) (time x) (u (x ∷ h)) ≡ true_false_hold_of (x ∷ h)
    unfolding true_false_hold_update
    true_false_hold_update_lem x h o = rw (hold_step x h o)

    pub true_false_hold_reads : (x : A) (h : List A) → T (in_order time (x ∷ h)) → T (in_order time h)
        → true_false_hold_output (stepped (true_false_hold_new fall rise) (λ s p. true_false_hold_update s (time_of time p) (u p)) h) (time x) (u (x ∷ h)) ≡ held (x ∷ h)
    true_false_hold_reads x h o k = rw (stepped_in_order (true_false_hold_new fall rise) (λ s p. true_false_hold_update s (time_of time p) (u p)) true_false_hold_of time true_false_hold_new_lem true_false_hold_update_lem h k) (true_false_hold_output_lem x h o)
