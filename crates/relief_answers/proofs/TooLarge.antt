-- One pressure can end all pulses: where the sum of pressure times gap has overflowed, the mean is a NaN once the window has passed that row. Assumes nothing.
use Prim.Native.Nat.{ℕ, zero, suc}
use mathlib.Core.Path.{◌≡◌, refl}
use mathlib.Core.Bool.{Bool, true, false, ◌&&◌, ◌||◌, cond, true≢false}
use mathlib.Core.List.{List, [], ◌∷◌, ◌++◌, map}
use lib.Dec.{T}
use lib.ListN.{drop}
use lib.Ieee.{Float, nan, binary64, add, sub, mul, div, lt, le, eq, is_nan, neg, of_bits}
use lib.Ieee.Scale.{finite}
use lib.Ieee.Fits.{and_i, and_l, and_r}
use Rattle.reals.specs.Constants.{plus_zero}
use Rattle.reals.specs.Sign.{is_time}
use Rattle.reals.proofs.Truth.{holds, either, or_l, or_r}
use Rattle.reals.proofs.FloatOrder.{le_trans, lt_le, lt→le, lt_excludes, lt_opposite, le_numbers}
use Rattle.past.specs.Runs.{time_of}
use Rattle.past.specs.Stepped.{in_order}
use Rattle.past.proofs.Stepped.{time_here}
use Rattle.past.proofs.Judged.{time_number}
use Rattle.moving_average.specs.declared.state.MovingAverageState.{MovingAverageState}
use Rattle.moving_average.specs.Window.{Point, point}
use Rattle.moving_average.specs.Integral.{on_line, integral_after, integral_at}
use Rattle.moving_average.specs.State.{held, cutoff, mu_now, moving_average_output}
use Rattle.moving_average.specs.Past.{accepted, moving_average_of}
use Rattle.moving_average.proofs.Accepted.{tail_accepted}
use Rattle.relief_fan_group.specs.declared.types.ReliefRow.{ReliefRow}
use Rattle.relief_fan_group.specs.Reading.{Past, time_of_row, mean, up_pulse, down_pulse}
use Rattle.relief_fan_group.proofs.Blocks.{before}
use Rattle.relief_fan_group.proofs.Demand3.{accepted_good}
use Rattle.relief_answers.specs.Latches.{taken}
use Rattle.relief_answers.specs.Sum.{gap_after, pressure_sum}
use Rattle.relief_answers.proofs.Latches.{taken_in_order}
use Rattle.relief_answers.proofs.Pulses.{nan_makes_no_pulse}
use Rattle.relief_answers.proofs.Overflow.{over, sign_of, is_over, over_add, over_add_right, over_sub, over_mul, clear_div, clear_gap, clear_time_gap}
use Rattle.relief_answers.proofs.Points.{all, all_update, all_wider, old, old_points, window, sum_at, sum_here, window_accepted}

-- ---- where every point after the time `last` is over, so is the integral at any later time
module _ (s : Bool) (last : Float) where
  abbrev Q : Point → Bool
  Q p = is_time p.time && (le p.time last || over s p.integral)

  module _ (c : Float) (later : T (lt last c)) where
    q_over : (q : Point) → T (Q q) → T (le c q.time) → T (over s q.integral)
    q_over q h l = either (T (over s q.integral)) (le q.time last) (over s q.integral) (and_r (is_time q.time) (le q.time last || over s q.integral) h)
        (λ e. absurd (lt_excludes last q.time (lt_le last c q.time later l) e)) (λ e. e)

    on_line_lem : (p q : Point) → T (is_time p.time) → T (is_time q.time) → T (lt p.time c) → T (le c q.time)
        → T (over s q.integral) → T (over s (on_line c p q))
    unfolding on_line
    on_line_lem p q a b l k h = go (eq (sub binary64 q.time p.time) plus_zero)
      where
        ratio : Float
        ratio = div binary64 (sub binary64 c p.time) (sub binary64 q.time p.time)

        go : (z : Bool)
            → T (over s (cond z q.integral (add binary64 p.integral (mul binary64 (sub binary64 q.integral p.integral) ratio))))
        go true = h
        go false =
            over_add_right s p.integral (mul binary64 (sub binary64 q.integral p.integral) ratio)
            (over_mul s (sub binary64 q.integral p.integral) ratio (unfold sub in over_add s q.integral (neg p.integral) h)
            (clear_div (sub binary64 c p.time) (sub binary64 q.time p.time) (clear_gap c p.time a l)
            (clear_time_gap q.time p.time b a (le_trans p.time c q.time (lt→le p.time c l) k))))

    c_number : is_nan c ≡ false
    c_number = (le_numbers last c (lt→le last c later)).1

    earlier : (p : Point) → T (is_time p.time) → le c p.time ≡ false → T (lt p.time c)
    earlier p a e = rw (lt_opposite p.time c (time_number p.time a) c_number, e) tt

    module _ (now : Point) (now_time : T (is_time now.time)) (now_over : T (over s now.integral)) where
      after : (p : Point) (ps : List Point) → T (is_time p.time) → T (lt p.time c) → T (all Q ps)
          → T (over s (integral_after c p (ps ++ (now ∷ []))))
      unfolding integral_after
      after p [] a l h = go (le c now.time) refl
        where
          go : (b : Bool) → le c now.time ≡ b → T (over s (cond b (on_line c p now) now.integral))
          go true e = on_line_lem p now a now_time l (holds _ e) now_over
          go false e = now_over
      after p (q ∷ ps) a l h = go (le c q.time) refl (λ e. after q ps q_time (earlier q q_time e) (and_r (Q q) (all Q ps) h))
        where
          q_is : T (Q q)
          q_is = and_l (Q q) (all Q ps) h

          q_time : T (is_time q.time)
          q_time = and_l (is_time q.time) (le q.time last || over s q.integral) q_is

          go : (b : Bool) → le c q.time ≡ b
              → (le c q.time ≡ false → T (over s (integral_after c q (ps ++ (now ∷ [])))))
              → T (over s (cond b (on_line c p q) (integral_after c q (ps ++ (now ∷ [])))))
          go true e f = on_line_lem p q a q_time l (holds _ e) (q_over q q_is (holds _ e))
          go false e f = f e

      integral_over : (ps : List Point) → T (all Q ps) → T (over s (integral_at c ps now))
      unfolding integral_at
      integral_over [] h = now_over
      integral_over (p ∷ ps) h = go (le c p.time) refl
        where
          p_is : T (Q p)
          p_is = and_l (Q p) (all Q ps) h

          p_time : T (is_time p.time)
          p_time = and_l (is_time p.time) (le p.time last || over s p.integral) p_is

          go : (b : Bool) → le c p.time ≡ b
              → T (over s (cond b p.integral (integral_after c p (ps ++ (now ∷ [])))))
          go true e = q_over p p_is (holds _ e)
          go false e = after p ps p_time (earlier p p_time e) (and_r (Q p) (all Q ps) h)

  -- ---- so the mean is a NaN
  mean_nan : (m : MovingAverageState) (t input : Float) → T (is_time t) → T (lt last (cutoff t))
      → T (over s (mu_now m.prev_t m.mu t input)) → T (all Q (held m)) → moving_average_output m t input ≡ nan
  unfolding moving_average_output
  mean_nan m t input a l o q =
      let mu = mu_now m.prev_t m.mu t input in
      rw (over_sub s mu (integral_at (cutoff t) (held m) (point t mu)) o (integral_over (cutoff t) l (point t mu) a o (held m) q)) (unfold div in refl)

  -- ---- from the row on whose sum is not finite: the sum is over here, and so is every point after `last` of the window before
  record Gone (x : ReliefRow) (h : Past) : Type 0 where
    sum : T (over s (pressure_sum (x ∷ h)))
    points : T (all Q (held (window h)))

  gone_on : (x y : ReliefRow) (h : Past) → T (in_order time_of_row (y ∷ h)) → T (accepted (map time_of_row h)) → Gone y h
      → Gone x (y ∷ h)
  unfolding pressure_sum moving_average_of
  gone_on x y h o a g = record {
    sum = over_add s (pressure_sum (y ∷ h)) (mul binary64 x.pressure (gap_after x (y ∷ h))) g.sum;
    points = all_update Q (window h) y.time y.pressure
        (and_i (is_time y.time) (le y.time last || over s (sum_at y h)) (time_here time_of_row y h o) (or_r (le y.time last) (over s (sum_at y h)) (rw (sum_here y h a) g.sum))) g.points;
  }

  gone_nan : (x : ReliefRow) (h : Past) → T (in_order time_of_row (x ∷ h)) → T (accepted (map time_of_row h))
      → T (lt last (cutoff x.time)) → Gone x h → mean (x ∷ h) ≡ nan
  unfolding mean
  gone_nan x h o a l g = mean_nan (window h) x.time x.pressure (time_here time_of_row x h o) l (rw (sum_here x h a) g.sum) g.points

-- before row 0 the sum is 0
none_before : (k : ℕ) → finite (pressure_sum (drop {A = ReliefRow} k [])) ≡ false → ⊥
unfolding pressure_sum of_bits
none_before zero e = true≢false e
none_before (suc k) e = true≢false e

gone : (k : ℕ) (x : ReliefRow) (h : Past) → T (in_order time_of_row (x ∷ h)) → T (accepted (map time_of_row (x ∷ h)))
    → finite (pressure_sum (drop k (x ∷ h))) ≡ false
    → Gone (sign_of (pressure_sum (drop k (x ∷ h)))) (time_of time_of_row (drop (suc k) (x ∷ h))) x h
gone zero x h o a e = record {
  sum = is_over (pressure_sum (x ∷ h)) e;
  points = all_wider (old last) (Q s last)
      (λ p k. and_i (is_time p.time) (le p.time last || over s p.integral) (and_l (is_time p.time) (le p.time last) k)
      (or_l (le p.time last) (over s p.integral) (and_r (is_time p.time) (le p.time last) k)))
      (held (window h)) (old_points h (before x h o));
}
  where
    s : Bool
    s = sign_of (pressure_sum (x ∷ h))

    last : Float
    last = time_of time_of_row h
gone (suc k) x [] o a e = absurd (none_before k e)
gone (suc k) x (y ∷ h) o a e =
    let t = tail_accepted x.time (map time_of_row (y ∷ h)) a in
    gone_on _ _ x y h (before x (y ∷ h) o) (tail_accepted y.time (map time_of_row h) t) (gone k y h (before x (y ∷ h) o) t e)

-- for every list of rows, refused ones included: where the sum was not finite k rows ago, and here is more than 300 s after the row before that one, the mean is no
-- number, and there is no pulse
pub too_large : (k : ℕ) (l : List ReliefRow) → finite (pressure_sum (drop k (taken l))) ≡ false
    → T (lt (time_of time_of_row (drop (suc k) (taken l))) (cutoff (time_of time_of_row (taken l))))
    → (mean (taken l) ≡ nan) × (up_pulse (taken l) ≡ false) × (down_pulse (taken l) ≡ false)
too_large k l = go (taken l) (taken_in_order l) (window_accepted (taken l) (accepted_good l))
  where
    go : (h : Past) → T (in_order time_of_row h) → T (accepted (map time_of_row h))
        → finite (pressure_sum (drop k h)) ≡ false
        → T (lt (time_of time_of_row (drop (suc k) h)) (cutoff (time_of time_of_row h))) → (mean h ≡ nan)
        × (up_pulse h ≡ false) × (down_pulse h ≡ false)
    go [] o a e l = absurd (none_before k e)
    go (x ∷ h) o a e l =
        let number = gone_nan _ _ x h o (tail_accepted x.time (map time_of_row h) a) l (gone k x h o a e) in
        let quiet = nan_makes_no_pulse x h o number in
        (number, quiet.0, quiet.1)
