-- The elapsed time of a signal beside the marks of the timers on it, and what is left until a mark passes. Assumes nothing.
use Prim.Native.Nat.{ℕ, zero, suc, ◌-◌, ◌^◌, ◌≤◌}
use native.Mathlib.Omega.{arith}
use mathlib.Core.Path.{◌≡◌, refl, sym, ap₂, ◌∙◌}
use mathlib.Core.Bool.{Bool, true, false, not, ◌&&◌, ◌||◌, cond}
use mathlib.Core.List.{List, [], ◌∷◌}
use lib.Dec.{T, leb, leb→le, le→leb, nleb→lt, not_T}
use lib.ListN.{drop}
use lib.Ieee.{Float, nan, inf, fin, binary64, sub, le, round, of_bits}
use lib.Ieee.Fits.{and_l, and_r}
use lib.Ieee.Scale.{finite}
use Rattle.reals.specs.Constants.{plus_zero, whole}
use Rattle.reals.specs.Order.{greater}
use Rattle.reals.specs.Sign.{is_time, is_sign_negative}
use Rattle.reals.specs.Switch.{switch}
use Rattle.reals.proofs.Truth.{is_true, holds, fails, same, table1}
use Rattle.reals.proofs.FloatOrder.{le_trans, le_refl, not-lt→le}
use Rattle.reals.proofs.Round.{plain, round_plain, plain_not_below}
use Rattle.reals.proofs.Times.{self_gap, minus_mono, greater_plain}
use Rattle.reals.proofs.WholeNumbers.{whole_le, whole_sub}
use Rattle.logical.specs.Timer.{timer_output_left}
use Rattle.past.specs.Past.{every, run_start}
use Rattle.past.specs.Runs.{time_of, since_time, passed, running, elapsed, held_timer, present_timer, WholeSeconds}
use Rattle.past.specs.Stepped.{in_order}
use Rattle.past.proofs.RunLaws.{last_rise, run_start_lem, start_time_lem, passed_step, passed_none, running_step, elapsed_step}
use Rattle.past.proofs.Stepped.{order_before, order_here, time_here, finite_here}
use Rattle.past.proofs.Judged.{time_number}

-- ---- times
time_plain : (t : Float) → T (is_time t) → T (plain t)
unfolding is_sign_negative
time_plain nan h = absurd h
time_plain (inf s) h = absurd h
time_plain (fin true m e) h = absurd h
time_plain (fin false m e) h = tt

zero_time : T (is_time plus_zero)
unfolding is_sign_negative of_bits
zero_time = tt

zero_first : (t : Float) → T (is_time t) → T (le plus_zero t)
zero_first t h = not-lt→le t plus_zero (time_number t h) (time_number plus_zero zero_time) (plain_not_below t (time_plain t h))

module _ {A : Type 0} (time : A → Float) where
  pub order_kept : (k : ℕ) (h : List A) → T (in_order time h) → T (in_order time (drop k h))
  order_kept zero h o = o
  order_kept (suc k) [] o = tt
  order_kept (suc k) (x ∷ h) o = order_kept k h (order_before time x h o)

  next_later : (x : A) (h : List A) → T (in_order time (x ∷ h)) → T (le (time_of time h) (time x))
  next_later x [] o = zero_first (time x) (time_here time x [] o)
  next_later x (y ∷ h) o = order_here time x (y ∷ h) o

  -- the time of an earlier row, and the 0 that stands before row 0, is not after the row here
  pub earlier : (k : ℕ) (h : List A) → T (in_order time h) → T (le (time_of time (drop k h)) (time_of time h))
  earlier zero [] o = le_refl plus_zero (time_number plus_zero zero_time)
  earlier zero (x ∷ h) o = le_refl (time x) (time_number (time x) (time_here time x h o))
  earlier (suc k) [] o = le_refl plus_zero (time_number plus_zero zero_time)
  earlier (suc k) (x ∷ h) o = le_trans (time_of time (drop k h)) (time_of time h) (time x) (earlier k h (order_before time x h o)) (next_later x h o)

every_first : (k : ℕ) (f : ℕ → Bool) → T (every (suc k) f) → T (f 0)
unfolding every
every_first k f t = and_l (f 0) (every k (λ j. f (suc j))) t

every_last : (k : ℕ) (f : ℕ → Bool) → T (every (suc k) f) → T (f k)
unfolding every
every_last zero f t = and_l (f 0) true t
every_last (suc k) f t = every_last k (λ j. f (suc j)) (and_r (f 0) (every (suc k) (λ j. f (suc j))) t)

pub whole_order : (a b : ℕ) (p q : Float) → a ≤ 2 ^ 53 → b ≤ 2 ^ 53 → p ≡ whole a → q ≡ whole b → T (le p q) → a ≤ b
whole_order a b p q C D P Q t = leb→le a b (holds (leb a b) (sym (whole_le a b C D) ∙ ap₂ (λ (i j : Float). le i j) (sym P) (sym Q) ∙ is_true (le p q) t))

-- ---- what is left, in whole seconds: the run starts at s, here is x, and a later row is y
module _ (m s x y : ℕ) (M : m ≤ 2 ^ 53) (Y : y ≤ 2 ^ 53) (S : s ≤ x) (X : x ≤ y) where
  whole_left :
      le (whole m) (sub binary64 (whole y) (whole s))
      ≡ le (timer_output_left (record { passed = le (whole m) (sub binary64 (whole x) (whole s)); elapsed = sub binary64 (whole x) (whole s) }) (whole m)) (sub binary64 (whole y) (whole x))
  unfolding timer_output_left switch
  whole_left =
      rw (whole_sub y s Y (omega (arith, S, X)), whole_sub x s (omega (arith, X, Y)) S, whole_sub y x Y X, whole_le m (y - s) M (omega (arith, Y)), whole_le m (x - s) M (omega (arith, X, Y)))
      (go (leb m (x - s)) refl)
    where
      zero_whole : plus_zero ≡ whole 0
      zero_whole = unfold round of_bits in refl

      go : (b : Bool) → leb m (x - s) ≡ b → leb m (y - s) ≡ le (cond b plus_zero (greater (sub binary64 (whole m) (whole (x - s))) plus_zero)) (whole (y - x))
      go true q =
          let enough : m ≤ x - s = leb→le m (x - s) (holds (leb m (x - s)) q) in
          is_true (leb m (y - s)) (le→leb m (y - s) (omega (arith, enough, X)))
          ∙ sym (rw (zero_whole, whole_le 0 (y - x) (omega (arith)) (omega (arith, Y))) (is_true (leb 0 (y - x)) (le→leb 0 (y - x) (omega arith))))
      go false q =
          let short : x - s ≤ m = omega (arith, nleb→lt m (x - s) (not_T (leb m (x - s)) (fails (leb m (x - s)) q))) in
          sym (rw (whole_sub m (x - s) M short, greater_plain (whole (m - (x - s))) (round_plain binary64 (m - (x - s)) 1), whole_le (m - (x - s)) (y - x) (omega (arith, M)) (omega (arith, Y)))
          (same _ _ (λ t. le→leb m (y - s) (omega (arith, leb→le (m - (x - s)) (y - x) t, S, X))) (λ t. le→leb (m - (x - s)) (y - x) (omega (arith, leb→le m (y - s) t, S, X)))))

  -- the same of three times that are such numbers
  pub seconds_left : (n r t v : Float) → n ≡ whole m → r ≡ whole s → t ≡ whole x → v ≡ whole y
      → le n (sub binary64 v r) ≡ le (timer_output_left (record { passed = le n (sub binary64 t r); elapsed = sub binary64 t r }) n) (sub binary64 v t)
  seconds_left n r t v N R H K = rw (N, R, H, K) whole_left

module _ {A : Type 0} (time : A → Float) (u : List A → Bool) (e : u [] ≡ false) where
  running_is : (n : Float) (h : List A) → running time n u h ≡ (u h && le n (sub binary64 (time_of time h) (last_rise time u e h)))
  unfolding running
  running_is n h = run_start_lem time u e (λ t. le n (sub binary64 (time_of time h) t)) h

  -- the time of the last rise, and the 0 that stands where u never rose, is a time, and not after the row here
  pub rise_first : (h : List A) → T (in_order time h) → T (le (last_rise time u e h) (time_of time h))
  rise_first h o = rw (← start_time_lem time u e h) (earlier time (run_start u h) h o)

  pub rise_time : (h : List A) → T (in_order time h) → T (is_time (last_rise time u e h))
  rise_time [] o = zero_time
  rise_time (x ∷ h) o = go (u (x ∷ h) && not (u h)) (rise_time h (order_before time x h o))
    where
      go : (r : Bool) → T (is_time (last_rise time u e h)) → T (is_time (cond r (time x) (last_rise time u e h)))
      go true i = time_here time x h o
      go false i = i

  -- while u stays on the run has one start
  start_kept : (k : ℕ) (h : List A) → T (every (suc k) (λ j. u (drop j h))) → last_rise time u e h ≡ last_rise time u e (drop k h)
  unfolding every
  start_kept zero h t = refl
  start_kept (suc k) [] t = absurd (fails (u []) e (and_l (u []) (every (suc k) (λ j. u (drop {A = A} (suc j) []))) t))
  start_kept (suc k) (x ∷ h) t =
      let later = and_r (u (x ∷ h)) (every (suc k) (λ j. u (drop {A = A} j h))) t in
      rw (is_true (u (x ∷ h)) (and_l (u (x ∷ h)) (every (suc k) (λ j. u (drop {A = A} j h))) t), is_true (u h) (and_l (u h) (every k (λ j. u (drop {A = A} (suc j) h))) later)) (start_kept k h later)

  -- a time that has been reached stays reached, since times do not fall
  pub still_reached : (n : Float) (x : A) (h : List A) → T (in_order time (x ∷ h)) → T (u h) → T (le n (sub binary64 (time_of time h) (last_rise time u e h)))
      → T (le n (sub binary64 (time x) (last_rise time u e h)))
  still_reached n x [] o a l = absurd (fails (u []) e a)
  still_reached n x (y ∷ h) o a l =
      let first = last_rise time u e (y ∷ h) in
      let earlier_rows = order_before time x (y ∷ h) o in
      le_trans n (sub binary64 (time y) first) (sub binary64 (time x) first) l
      (minus_mono (time y) (time x) first (time_here time y h earlier_rows) (time_here time x (y ∷ h) o) (rise_time (y ∷ h) earlier_rows) (order_here time x (y ∷ h) o))

-- u is false before row 0, and the threshold n is above 0
module _ {A : Type 0} (time : A → Float) (n : Float) (u : List A → Bool) (e : u [] ≡ false) (positive : le n plus_zero ≡ false) where
  -- ---- a mark is on exactly where the elapsed time is at least the threshold
  pub running_elapsed : (x : A) (h : List A) → T (finite (time x)) → running time n u (x ∷ h) ≡ le n (elapsed time u (x ∷ h))
  running_elapsed x h f = rw (running_step time u e n x h, elapsed_step time u e x h) (go (u (x ∷ h)) (u h) (last_rise time u e h))
    where
      go : (a b : Bool) (r : Float) → (a && le n (sub binary64 (time x) (cond (a && not b) (time x) r))) ≡ le n (cond (a && b) (sub binary64 (time x) r) plus_zero)
      go true true r = refl
      go true false r = rw (self_gap (time x) f) refl
      go false b r = sym positive

  -- so over accepted rows the two timers have one mark
  pub passed_running : (h : List A) → T (in_order time h) → passed time n u h ≡ running time n u h
  passed_running [] o = rw (passed_none time u e n, running_is time u e n [], e) refl
  passed_running (x ∷ h) o =
      rw (passed_step time u e n x h, passed_running h (order_before time x h o), running_is time u e n h, running_step time u e n x h)
      (go (u (x ∷ h)) (u h) (le n (sub binary64 (time_of time h) (last_rise time u e h))) (still_reached time u e n x h o))
    where
      go : (a b d : Bool) → (T b → T d → T (le n (sub binary64 (time x) (last_rise time u e h))))
          → (a && (b && le n (sub binary64 (time x) (last_rise time u e h)) || b && d)) ≡ (a && le n (sub binary64 (time x) (cond (a && not b) (time x) (last_rise time u e h))))
      go true true true f = rw (is_true (le n (sub binary64 (time x) (last_rise time u e h))) (f tt tt)) refl
      go true true false f = table1 (λ c. c || false) (λ c. c) tt (le n (sub binary64 (time x) (last_rise time u e h)))
      go true false d f = sym (rw (self_gap (time x) (finite_here time x h o)) positive)
      go false b d f = refl

  pub passed_elapsed : (x : A) (h : List A) → T (in_order time (x ∷ h)) → passed time n u (x ∷ h) ≡ le n (elapsed time u (x ∷ h))
  passed_elapsed x h o = passed_running (x ∷ h) o ∙ running_elapsed x h (finite_here time x h o)

  -- ---- what is left
  elapsed_on : (x : A) (h : List A) → T (finite (time x)) → T (u (x ∷ h)) → elapsed time u (x ∷ h) ≡ sub binary64 (time x) (last_rise time u e (x ∷ h))
  elapsed_on x h f t = rw (elapsed_step time u e x h, is_true (u (x ∷ h)) t) (go (u h))
    where
      go : (b : Bool) → cond b (sub binary64 (time x) (last_rise time u e h)) plus_zero ≡ sub binary64 (time x) (cond (not b) (time x) (last_rise time u e h))
      go true = refl
      go false = sym (self_gap (time x) f)

  present_is : (h : List A) → T (in_order time h) → T (u h)
      → present_timer time n u h ≡ record { passed = le n (sub binary64 (time_of time h) (last_rise time u e h)); elapsed = sub binary64 (time_of time h) (last_rise time u e h) }
  present_is [] o t = absurd (fails (u []) e t)
  present_is (x ∷ h) o t = rw (running_is time u e n (x ∷ h), elapsed_on x h (finite_here time x h o) t, is_true (u (x ∷ h)) t) refl

  -- where u has been on at every row from k rows ago up to here, in whole seconds: the mark is on here exactly if the time since then is at least what was left then. So of the
  -- rows after a row, the mark comes at the first whose time is that much later
  module _ (m : ℕ) (M : m ≤ 2 ^ 53) (N : n ≡ whole m) (k : ℕ) (h : List A) (on : T (every (suc k) (λ j. u (drop j h)))) (o : T (in_order time h)) (w : WholeSeconds time h) where
    pub present_left : running time n u h ≡ le (timer_output_left (present_timer time n u (drop k h)) n) (since_time time k h)
    present_left =
        let first = w (run_start u h) in
        let then = w k in
        let here = w 0 in
        let start : last_rise time u e h ≡ last_rise time u e (drop k h) = start_kept time u e k h on in
        let on_here : T (u h) = every_first k (λ j. u (drop j h)) on in
        let on_then : T (u (drop k h)) = every_last k (λ j. u (drop j h)) on in
        let began : last_rise time u e h ≡ whole first.0 = sym (start_time_lem time u e h) ∙ first.1.1 in
        let ordered : T (le (last_rise time u e h) (time_of time (drop k h))) = rw start (rise_first time u e (drop k h) (order_kept time k h o)) in
        rw (running_is time u e n h, is_true (u h) on_here, present_is (drop k h) (order_kept time k h o) on_then, ← start)
        (seconds_left m first.0 then.0 here.0 M here.1.0 (whole_order first.0 then.0 _ _ first.1.0 then.1.0 began then.1.1 ordered)
        (whole_order then.0 here.0 _ _ then.1.0 here.1.0 then.1.1 here.1.1 (earlier time k h o)) n (last_rise time u e h) (time_of time (drop k h)) (time_of time h) N began then.1.1 here.1.1)

    pub held_left : passed time n u h ≡ le (timer_output_left (held_timer time n u (drop k h)) n) (since_time time k h)
    held_left = rw (passed_running h o, passed_running (drop k h) (order_kept time k h o)) present_left
