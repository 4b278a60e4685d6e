-- Runs of a past, one row further: what `passed`, `running` and `delayed` say of the start of the run is said of one time and one gap sum. Assumes nothing.
use Prim.Native.Nat.{ℕ, suc}
use native.Mathlib.Nat.{suc-sub-suc, sub-zero, sub_self}
use mathlib.Core.Path.{◌≡◌, refl, sym, ap, ap₂, ◌∙◌, fun_ext}
use mathlib.Core.Bool.{Bool, true, false, not, ◌&&◌, ◌||◌, cond}
use mathlib.Core.List.{List, [], ◌∷◌}
use lib.ListN.{drop}
use lib.Ieee.{Float, binary64, add, sub, le}
use Rattle.reals.specs.Constants.{plus_zero}
use Rattle.reals.proofs.Truth.{table1, table3, table5}
use Rattle.past.specs.Past.{some, least, since_with, row0, rises, run_start}
use Rattle.past.specs.Runs.{time_of, passed, running, elapsed, gaps, reached, delayed}
use Rattle.past.proofs.Laws.{since_with_step, since_with_none, since_with_or, rises_step}

module _ {A : Type 0} (time : A → Float) (u : List A → Bool) (e : u [] ≡ false) where
  -- the time of the last row where u rises; 0 where it never did
  abbrev pub last_rise : List A → Float
  last_rise [] = plus_zero
  last_rise (x ∷ h) = cond (u (x ∷ h) && not (u h)) (time x) (last_rise h)

  pub start_step : (x : A) (h : List A) → run_start u (x ∷ h) ≡ cond (u (x ∷ h) && not (u h)) 0 (suc (run_start u h))
  unfolding run_start least
  start_step x h = ap (λ (r : Bool). cond r 0 (suc (run_start u h))) (rises_step u e x h)

  -- there is an unbroken true run up to here exactly where u is true here, and it starts at the last rise
  pub run_is : (f : ℕ → Bool) (h : List A) → since_with u (rises u) f h ≡ (u h && f (run_start u h))
  run_is f [] = rw (e, since_with_none u (rises u) f) refl
  run_is f (x ∷ h) =
      since_with_step u (rises u) f x h
      ∙ ap₂ (λ (a b : Bool). a && f 0 || u (x ∷ h) && b) (rises_step u e x h) (run_is (λ k. f (suc k)) h)
      ∙ go (u (x ∷ h)) (u h) (run_start u h)
      ∙ ap (λ (k : ℕ). u (x ∷ h) && f k) (sym (start_step x h))
    where
      go : (a b : Bool) (k : ℕ) → (a && not b && f 0 || a && (b && f (suc k))) ≡ (a && f (cond (a && not b) 0 (suc k)))
      go true true k = refl
      go true false k = table1 (λ c. c || false) (λ c. c) tt (f 0)
      go false b k = refl

  -- the time of its start
  pub start_time_lem : (h : List A) → time_of time (drop (run_start u h) h) ≡ last_rise h
  start_time_lem [] = unfold run_start least in refl
  start_time_lem (x ∷ h) = ap (λ (k : ℕ). time_of time (drop k (x ∷ h))) (start_step x h) ∙ go (u (x ∷ h) && not (u h)) (start_time_lem h)
    where
      go : (r : Bool) → time_of time (drop (run_start u h) h) ≡ last_rise h → time_of time (drop (cond r 0 (suc (run_start u h))) (x ∷ h)) ≡ cond r (time x) (last_rise h)
      go true q = refl
      go false q = q

  pub run_start_lem : (f : Float → Bool) (h : List A) → since_with u (rises u) (λ k. f (time_of time (drop k h))) h ≡ (u h && f (last_rise h))
  run_start_lem f h = run_is (λ k. f (time_of time (drop k h))) h ∙ ap (λ (t : Float). u h && f t) (start_time_lem h)

  -- the elapsed time: from the last rise, where u is true here and was on the row before
  pub elapsed_step : (x : A) (h : List A) → elapsed time u (x ∷ h) ≡ cond (u (x ∷ h) && u h) (sub binary64 (time x) (last_rise h)) plus_zero
  unfolding elapsed
  elapsed_step x h = rw (start_time_lem (x ∷ h), rises_step u e x h) (go (u (x ∷ h)) (u h))
    where
      go : (a b : Bool) → cond (a && not (a && not b)) (sub binary64 (time x) (cond (a && not b) (time x) (last_rise h))) plus_zero ≡ cond (a && b) (sub binary64 (time x) (last_rise h)) plus_zero
      go true true = refl
      go true false = refl
      go false b = refl

  pub passed_step : (n : Float) (x : A) (h : List A)
      → passed time n u (x ∷ h) ≡ (u (x ∷ h) && ((u h && le n (sub binary64 (time x) (last_rise h))) || passed time n u h))
  unfolding passed some
  passed_step n x h =
      since_with_step u (rises u) (λ k. some k (λ j. le n (sub binary64 (time_of time (drop {A = A} j (x ∷ h))) (time_of time (drop {A = A} k (x ∷ h)))))) x h
      ∙ ap (λ (b : Bool). rises u (x ∷ h) && false || u (x ∷ h) && b)
      (since_with_or u (rises u) (λ k. le n (sub binary64 (time x) (time_of time (drop {A = A} k h)))) (λ k. some k (λ j. le n (sub binary64 (time_of time (drop {A = A} j h)) (time_of time (drop {A = A} k h))))) h
      ∙ ap (λ (b : Bool). b || passed time n u h) (run_start_lem (λ t. le n (sub binary64 (time x) t)) h))
      ∙ table3 (λ a b c. a && false || b && c) (λ a b c. b && c) tt (rises u (x ∷ h)) (u (x ∷ h)) (u h && le n (sub binary64 (time x) (last_rise h)) || passed time n u h)

  pub passed_none : (n : Float) → passed time n u [] ≡ false
  unfolding passed
  passed_none n = since_with_none u (rises u) (λ k. some k (λ j. le n (sub binary64 (time_of time (drop {A = A} j [])) (time_of time (drop {A = A} k [])))))

  pub running_step : (n : Float) (x : A) (h : List A) → running time n u (x ∷ h) ≡ (u (x ∷ h) && le n (sub binary64 (time x) (last_rise (x ∷ h))))
  unfolding running
  running_step n x h = run_start_lem (λ t. le n (sub binary64 (time x) t)) (x ∷ h)

  -- the gaps since the start of the run up to here, added in order; 0 where there is no run
  abbrev pub run_gaps : List A → Float
  run_gaps [] = plus_zero
  run_gaps (x ∷ h) = cond (u (x ∷ h) && u h) (add binary64 (run_gaps h) (sub binary64 (time x) (time_of time h))) plus_zero

  pub run_gaps_lem : (f : Float → Bool) (h : List A) → since_with u (rises u) (λ k. f (gaps time k h)) h ≡ (u h && f (run_gaps h))
  unfolding gaps
  run_gaps_lem f [] = rw (e, since_with_none u (rises u) (λ k. f (gaps time k []))) refl
  run_gaps_lem f (x ∷ h) =
      since_with_step u (rises u) (λ k. f (gaps time k (x ∷ h))) x h
      ∙ ap₂ (λ (a b : Bool). a && f plus_zero || u (x ∷ h) && b) (rises_step u e x h) (run_gaps_lem (λ g. f (add binary64 g (sub binary64 (time x) (time_of time h)))) h)
      ∙ go (u (x ∷ h)) (u h) (add binary64 (run_gaps h) (sub binary64 (time x) (time_of time h)))
    where
      go : (a b : Bool) (g : Float) → (a && not b && f plus_zero || a && (b && f g)) ≡ (a && f (cond (a && b) g plus_zero))
      go true true g = refl
      go true false g = table1 (λ c. c || false) (λ c. c) tt (f plus_zero)
      go false b g = refl

  -- the gap sum reaches n here, or it did a row earlier
  pub reached_step : (n : Float) (k : ℕ) (x : A) (h : List A) → reached time n (suc k) (x ∷ h) ≡ (le n (gaps time (suc k) (x ∷ h)) || reached time n k h)
  unfolding reached some
  reached_step n k x h =
      ap₂ (λ (a b : Bool). a || b) (ap (λ (m : ℕ). le n (gaps time m (x ∷ h))) (sub-zero (suc k)))
      (ap (some (suc k)) (fun_ext (λ (j : ℕ). ap (λ (m : ℕ). le n (gaps time m (drop {A = A} j h))) (suc-sub-suc k j))))

  -- on the first row of a run only a delay of 0 or less is reached
  reached_none : (n : Float) (h : List A) → reached time n 0 h ≡ le n plus_zero
  unfolding reached some
  reached_none n h = rw (sub_self 0) (unfold gaps in table1 (λ a. a || false) (λ a. a) tt (le n plus_zero))

  pub delayed_step : (n : Float) → le n plus_zero ≡ false → (x : A) (h : List A)
      → delayed time n u (x ∷ h) ≡ (u (x ∷ h) && (row0 (x ∷ h) || (delayed time n u h || u h && le n (add binary64 (run_gaps h) (sub binary64 (time x) (time_of time h))))))
  unfolding delayed
  delayed_step n positive x h =
      since_with_step u (rises u) (λ k. row0 (drop {A = A} k (x ∷ h)) || reached time n k (x ∷ h)) x h
      ∙ rw (reached_none n (x ∷ h), positive) (ap₂ (λ (a b : Bool). a && (row0 (x ∷ h) || false) || u (x ∷ h) && b) (rises_step u e x h) earlier ∙ go h began (since_with u (rises u) (λ k. reached time n k h) h) (le n longer)
      ∙ ap (λ (b : Bool). u (x ∷ h) && (row0 (x ∷ h) || (b || u h && le n longer))) (sym (since_with_or u (rises u) (λ k. row0 (drop {A = A} k h)) (λ k. reached time n k h) h)))
    where
      longer : Float
      longer = add binary64 (run_gaps h) (sub binary64 (time x) (time_of time h))

      began : Bool
      began = since_with u (rises u) (λ k. row0 (drop {A = A} k h)) h

      within : since_with u (rises u) (λ k. le n (gaps time (suc k) (x ∷ h))) h ≡ (u h && le n longer)
      within = unfold gaps in run_gaps_lem (λ g. le n (add binary64 g (sub binary64 (time x) (time_of time h)))) h

      -- of the runs that started before here
      earlier : since_with u (rises u) (λ k. row0 (drop {A = A} k h) || reached time n (suc k) (x ∷ h)) h ≡ (began || (u h && le n longer || since_with u (rises u) (λ k. reached time n k h) h))
      earlier =
          since_with_or u (rises u) (λ k. row0 (drop {A = A} k h)) (λ k. reached time n (suc k) (x ∷ h)) h
          ∙ ap (λ (b : Bool). began || b)
          (ap (λ (f : ℕ → Bool). since_with u (rises u) f h) (fun_ext (λ (k : ℕ). reached_step n k x h))
          ∙ since_with_or u (rises u) (λ k. le n (gaps time (suc k) (x ∷ h))) (λ k. reached time n k h) h
          ∙ ap (λ (b : Bool). b || since_with u (rises u) (λ k. reached time n k h) h) within)

      go : (h : List A) (a c d : Bool) → (u (x ∷ h) && not (u h) && (row0 (x ∷ h) || false) || u (x ∷ h) && (a || (u h && d || c))) ≡ (u (x ∷ h) && (row0 (x ∷ h) || (a || c || u h && d)))
      go [] a c d = rw e (table3 (λ w a c. w && true && true || w && (a || c)) (λ w a c. w && true) tt (u (x ∷ [])) a c)
      go (z ∷ h) a c d = table5 (λ w v a c d. w && not v && false || w && (a || (v && d || c))) (λ w v a c d. w && (a || c || v && d)) tt (u (x ∷ (z ∷ h))) (u (z ∷ h)) a c d

  pub delayed_none : (n : Float) → delayed time n u [] ≡ false
  unfolding delayed
  delayed_none n = since_with_none u (rises u) (λ k. row0 (drop {A = A} k []) || reached time n k [])
