-- Lapses, one row further: what they say of the nearest rise is said of its time, and a latch that a lapse clears is on from a rise until it lapses. Assumes nothing.
use Prim.Native.Nat.{ℕ, zero, suc, ◌^◌, ◌≤◌}
use mathlib.Core.Path.{◌≡◌, refl, sym, ap, ap₂, ◌∙◌}
use mathlib.Core.Bool.{Bool, true, false, not, ◌&&◌, ◌||◌, cond}
use mathlib.Core.List.{List, [], ◌∷◌}
use lib.Dec.{T}
use lib.ListN.{drop}
use lib.Ieee.{Float, binary64, sub, le}
use lib.Ieee.Fits.{and_l, and_r}
use Rattle.reals.specs.Constants.{plus_zero, whole}
use Rattle.reals.proofs.FloatOrder.{le_trans}
use Rattle.reals.proofs.Times.{self_gap, minus_mono}
use Rattle.reals.proofs.Truth.{table1, table2, table3, table4, is_true, or_r, holds, fails}
use Rattle.logical.specs.Timer.{timer_output_left}
use Rattle.past.specs.Past.{some, every, first, rises, risen, run_start, latched}
use Rattle.past.specs.Runs.{time_of, since_time, lapses, lapsed, within, since_rise, run_on_timer, WholeSeconds}
use Rattle.past.specs.Stepped.{in_order}
use Rattle.past.proofs.Laws.{rises_step, latched_step, latched_none}
use Rattle.past.proofs.RunLaws.{last_rise, start_step, start_time_lem}
use Rattle.past.proofs.Stepped.{order_before, order_here, time_here, finite_here}
use Rattle.past.proofs.ElapsedLaws.{order_kept, earlier, whole_order, seconds_left, rise_first, rise_time}

every_not : (n : ℕ) (f : ℕ → Bool) → every n (λ k. not (f k)) ≡ not (some n f)
unfolding every some
every_not zero f = refl
every_not (suc n) f = ap (λ (b : Bool). not (f 0) && b) (every_not n (λ k. f (suc k))) ∙ table2 (λ a b. not a && not b) (λ a b. not (a || b)) tt (f 0) (some n (λ k. f (suc k)))

module _ {A : Type 0} (time : A → Float) (u : List A → Bool) (e : u [] ≡ false) where
  pub risen_step : (x : A) (h : List A) → risen u (x ∷ h) ≡ (u (x ∷ h) && not (u h) || risen u h)
  unfolding risen some
  risen_step x h = ap (λ (r : Bool). r || risen u h) (rises_step u e x h)

  pub risen_none : risen u [] ≡ false
  unfolding risen some
  risen_none = refl

  -- the time since the nearest rise, if it lies before here
  pub since_rise_step : (x : A) (h : List A) → since_rise time u (x ∷ h) ≡ cond (not (u (x ∷ h) && not (u h)) && risen u h) (sub binary64 (time x) (last_rise time u e h)) plus_zero
  unfolding since_rise
  since_rise_step x h = rw (start_time_lem time u e (x ∷ h), rises_step u e x h, risen_step x h) (go (u (x ∷ h) && not (u h)) (risen u h))
    where
      go : (r o : Bool) → cond ((r || o) && not r) (sub binary64 (time x) (cond r (time x) (last_rise time u e h))) plus_zero ≡ cond (not r && o) (sub binary64 (time x) (last_rise time u e h)) plus_zero
      go true o = refl
      go false true = refl
      go false false = refl

  module _ (n : Float) where
    -- the row x is n or more after the nearest rise before it
    abbrev pub due_after : A → List A → Bool
    due_after x h = risen u h && le n (sub binary64 (time x) (last_rise time u e h))

    -- row j of h, counted back, is n or more after row k
    abbrev apart : List A → ℕ → ℕ → Bool
    apart h k j = le n (sub binary64 (time_of time (drop {A = A} j h)) (time_of time (drop {A = A} k h)))

    pub lapsed_none : lapsed time n u [] ≡ false
    unfolding lapsed
    lapsed_none = rw risen_none refl

    pub lapses_none : lapses time n u [] ≡ false
    unfolding lapses
    lapses_none = rw risen_none refl

    pub lapsed_step : (x : A) (h : List A) → lapsed time n u (x ∷ h) ≡ (not (u (x ∷ h) && not (u h)) && (due_after x h || lapsed time n u h))
    unfolding lapsed some
    lapsed_step x h =
        ap₂ (λ (o : Bool) (k : ℕ). o && some k (apart (x ∷ h) k)) (risen_step x h) (start_step time u e x h)
        ∙ go (u (x ∷ h) && not (u h))
        ∙ ap (λ (t : Float). not (u (x ∷ h) && not (u h)) && (risen u h && le n (sub binary64 (time x) t) || lapsed time n u h)) (start_time_lem time u e h)
      where
        go : (r : Bool)
            → ((r || risen u h) && some (cond r 0 (suc (run_start u h))) (apart (x ∷ h) (cond r 0 (suc (run_start u h)))))
            ≡ (not r && (risen u h && apart (x ∷ h) (suc (run_start u h)) 0 || risen u h && some (run_start u h) (apart h (run_start u h))))
        go true = refl
        go false = table3 (λ o a b. o && (a || b)) (λ o a b. o && a || o && b) tt (risen u h) (apart (x ∷ h) (suc (run_start u h)) 0) (some (run_start u h) (apart h (run_start u h)))

    pub lapses_step : (x : A) (h : List A) → lapses time n u (x ∷ h) ≡ (not (u (x ∷ h) && not (u h)) && (due_after x h && not (lapsed time n u h)))
    unfolding lapses lapsed first
    lapses_step x h =
        ap₂ (λ (o : Bool) (k : ℕ). o && first k (apart (x ∷ h) k)) (risen_step x h) (start_step time u e x h)
        ∙ go (u (x ∷ h) && not (u h))
        ∙ ap (λ (t : Float). not (u (x ∷ h) && not (u h)) && (risen u h && le n (sub binary64 (time x) t) && not (lapsed time n u h))) (start_time_lem time u e h)
      where
        go : (r : Bool)
            → ((r || risen u h) && first (cond r 0 (suc (run_start u h))) (apart (x ∷ h) (cond r 0 (suc (run_start u h)))))
            ≡ (not r && (risen u h && apart (x ∷ h) (suc (run_start u h)) 0 && not (risen u h && some (run_start u h) (apart h (run_start u h)))))
        go true = refl
        go false =
            rw (every_not (run_start u h) (apart h (run_start u h)))
            (table3 (λ o a b. o && (a && not b)) (λ o a b. o && a && not (o && b)) tt (risen u h) (apart (x ∷ h) (suc (run_start u h)) 0) (some (run_start u h) (apart h (run_start u h))))

    -- it lapses where it has lapsed and had not
    pub lapses_is_rise : (x : A) (h : List A) → rises (lapsed time n u) (x ∷ h) ≡ lapses time n u (x ∷ h)
    lapses_is_rise x h =
        rw (rises_step (lapsed time n u) lapsed_none x h, lapses_step x h, lapsed_step x h)
        (table3 (λ r d l. not r && (d || l) && not l) (λ r d l. not r && (d && not l)) tt (u (x ∷ h) && not (u h)) (due_after x h) (lapsed time n u h))

    within_is : (h : List A) → within time n u h ≡ (risen u h && not (lapsed time n u h))
    unfolding within lapsed
    within_is h = table2 (λ o l. o && not l) (λ o l. o && not (o && l)) tt (risen u h) (some (run_start u h) (apart h (run_start u h)))

    -- a latch that u sets and its lapse clears is on exactly within n of the nearest rise of u
    pub latched_until : (h : List A) → latched u (lapses time n u) h ≡ within time n u h
    latched_until [] = rw (latched_none u (lapses time n u), within_is [], risen_none) refl
    latched_until (x ∷ h) =
        rw (latched_step u (lapses time n u) e x h, lapses_step x h, latched_until h, within_is h, within_is (x ∷ h), lapsed_step x h, risen_step x h)
        (table4 (λ r d l o. not (not r && (d && not l)) && (r || o && not l)) (λ r d l o. (r || o) && not (not r && (d || l))) tt (u (x ∷ h) && not (u h)) (due_after x h) (lapsed time n u h) (risen u h))

    -- over times that do not fall, where n is above 0, the present row tells it
    module _ (positive : le n plus_zero ≡ false) where
      -- what was due a row earlier is due
      still_due : (x : A) (h : List A) → T (in_order time (x ∷ h)) → T (risen u h && le n (sub binary64 (time_of time h) (last_rise time u e h))) → T (due_after x h)
      still_due x [] o d = absurd (fails (risen u []) risen_none (and_l (risen u []) _ d))
      still_due x (y ∷ h) o d =
          let later = order_before time x (y ∷ h) o in
          let rise = last_rise time u e (y ∷ h) in
          both (risen u (y ∷ h)) _ (and_l (risen u (y ∷ h)) (le n (sub binary64 (time y) rise)) d)
          (le_trans n (sub binary64 (time y) rise) (sub binary64 (time x) rise) (and_r (risen u (y ∷ h)) (le n (sub binary64 (time y) rise)) d)
          (minus_mono (time y) (time x) rise (time_here time y h later) (time_here time x (y ∷ h) o) (rise_time time u e (y ∷ h) later) (order_here time x (y ∷ h) o)))
        where
          both : (a b : Bool) → T a → T b → T (a && b)
          both true b s t = t
          both false b s t = absurd s

      -- it has lapsed exactly where the row here is n or more after the nearest rise
      lapsed_here : (h : List A) → T (in_order time h) → lapsed time n u h ≡ (risen u h && le n (sub binary64 (time_of time h) (last_rise time u e h)))
      lapsed_here [] o = rw (lapsed_none, risen_none) refl
      lapsed_here (x ∷ h) o =
          rw (lapsed_step x h, risen_step x h)
          (go (u (x ∷ h) && not (u h)) (lapsed time n u h) (risen u h) (λ l. still_due x h o (holds _ (sym (lapsed_here h (order_before time x h o)) ∙ is_true (lapsed time n u h) l))))
        where
          at_rise : le n (sub binary64 (time x) (time x)) ≡ false
          at_rise = rw (self_gap (time x) (finite_here time x h o)) positive

          go : (r l o : Bool) → (T l → T (o && le n (sub binary64 (time x) (last_rise time u e h))))
              → (not r && (o && le n (sub binary64 (time x) (last_rise time u e h)) || l)) ≡ ((r || o) && le n (sub binary64 (time x) (cond r (time x) (last_rise time u e h))))
          go true l o f = sym at_rise
          go false false o f = table1 (λ a. a || false) (λ a. a) tt (o && le n (sub binary64 (time x) (last_rise time u e h)))
          go false true o f =
              let due : Bool = o && le n (sub binary64 (time x) (last_rise time u e h)) in
              table1 (λ a. a || true) (λ a. true) tt due ∙ sym (is_true due (f tt))

      -- the mark is on exactly where the elapsed time is n or more
      pub lapsed_elapsed : (h : List A) → T (in_order time h) → lapsed time n u h ≡ le n (since_rise time u h)
      lapsed_elapsed [] o = unfold since_rise in rw (lapsed_none, risen_none) (sym positive)
      lapsed_elapsed (x ∷ h) order = rw (lapsed_here (x ∷ h) order, risen_step x h, since_rise_step x h) (go (u (x ∷ h) && not (u h)) (risen u h))
        where
          go : (r o : Bool)
              → ((r || o) && le n (sub binary64 (time x) (cond r (time x) (last_rise time u e h)))) ≡ le n (cond (not r && o) (sub binary64 (time x) (last_rise time u e h)) plus_zero)
          go true o = rw (self_gap (time x) (finite_here time x h order)) refl
          go false true = refl
          go false false = sym positive

      pub within_elapsed : (h : List A) → T (in_order time h) → within time n u h ≡ (risen u h && not (le n (since_rise time u h)))
      within_elapsed h o = rw (within_is h, lapsed_elapsed h o) refl

      -- ---- what is left
      no_rise : (b : Bool) → T (not b) → b ≡ false
      no_rise true t = absurd t
      no_rise false t = refl

      -- while u does not rise, its nearest rise stays
      rise_kept : (k : ℕ) (h : List A) → T (every k (λ j. not (rises u (drop j h)))) → last_rise time u e h ≡ last_rise time u e (drop k h)
      unfolding every
      rise_kept zero h t = refl
      rise_kept (suc k) [] t = refl
      rise_kept (suc k) (x ∷ h) t =
          let later = every k (λ j. not (rises u (drop {A = A} j h))) in
          rw (sym (rises_step u e x h) ∙ no_rise (rises u (x ∷ h)) (and_l (not (rises u (x ∷ h))) later t)) (rise_kept k h (and_r (not (rises u (x ∷ h))) later t))

      risen_on : (k : ℕ) (h : List A) → T (risen u (drop k h)) → T (risen u h)
      risen_on zero h t = t
      risen_on (suc k) [] t = t
      risen_on (suc k) (x ∷ h) t = rw (risen_step x h) (or_r (u (x ∷ h) && not (u h)) (risen u h) (risen_on k h t))

      run_on_is : (h : List A) → T (in_order time h) → T (risen u h)
          → run_on_timer time n u h ≡ record { passed = le n (sub binary64 (time_of time h) (last_rise time u e h)); elapsed = sub binary64 (time_of time h) (last_rise time u e h) }
      run_on_is [] o t = absurd (fails (risen u []) risen_none t)
      run_on_is (x ∷ h) o t =
          rw (lapsed_here (x ∷ h) o, is_true (risen u (x ∷ h)) t, since_rise_step x h, go (u (x ∷ h) && not (u h)) (risen u h) (rw (risen_step x h) at t)) refl
        where
          go : (r q : Bool) → T (r || q) → cond (not r && q) (sub binary64 (time x) (last_rise time u e h)) plus_zero ≡ sub binary64 (time x) (cond r (time x) (last_rise time u e h))
          go true q t = sym (self_gap (time x) (finite_here time x h o))
          go false true t = refl
          go false false t = absurd t

      -- where u has risen and rises on none of the last k rows, in whole seconds: it has lapsed here exactly if the time since k rows ago is at least what was left then
      module _ (m : ℕ) (M : m ≤ 2 ^ 53) (N : n ≡ whole m) (k : ℕ) (h : List A) (known : T (risen u (drop k h))) (none : T (every k (λ j. not (rises u (drop j h)))))
          (o : T (in_order time h)) (w : WholeSeconds time h) where
        pub run_on_left : lapsed time n u h ≡ le (timer_output_left (run_on_timer time n u (drop k h)) n) (since_time time k h)
        run_on_left =
            let first = w (run_start u h) in
            let then = w k in
            let here = w 0 in
            let start : last_rise time u e h ≡ last_rise time u e (drop k h) = rise_kept k h none in
            let began : last_rise time u e h ≡ whole first.0 = sym (start_time_lem time u e h) ∙ first.1.1 in
            let ordered : T (le (last_rise time u e h) (time_of time (drop k h))) = rw start (rise_first time u e (drop k h) (order_kept time k h o)) in
            rw (lapsed_here h o, is_true (risen u h) (risen_on k h known), run_on_is (drop k h) (order_kept time k h o) known, ← start)
            (seconds_left m first.0 then.0 here.0 M here.1.0 (whole_order first.0 then.0 _ _ first.1.0 then.1.0 began then.1.1 ordered)
            (whole_order then.0 here.0 _ _ then.1.0 here.1.0 then.1.1 here.1.1 (earlier time k h o)) n (last_rise time u e h) (time_of time (drop k h)) (time_of time h) N began then.1.1 here.1.1)
