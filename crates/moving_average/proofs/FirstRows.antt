-- Cases R1 and R2: the mean of the first row, at any time and pressure, and of the second, computed. Assumes nothing.
use Prim.Native.Nat.{ℕ, zero, suc, ◌*◌, ◌<◌}
use native.Mathlib.Nat.{mul-pos, mul-zero, mul-one, zero-mul, zero-lt-suc}
use native.Mathlib.Omega.{arith}
use mathlib.Core.Path.{◌≡◌, refl, sym, ap, ◌∙◌}
use mathlib.Core.Bool.{Bool, true, false, cond}
use mathlib.Core.List.{zip_with}
use lib.Dec.{T, ltb→lt, eqb-suc-zero}
use lib.IntN.{ℤ, pos}
use lib.Ieee.{Float, nan, inf, fin, binary64, up, down, add, sub, sum, mul, div, neg, le, lt, eq, is_nan, round, of_bits}
use lib.Ieee.Fits.{down_pos, up_pos}
use lib.Ieee.Scale.{finite}
use Rattle.reals.specs.Constants.{plus_zero, whole}
use Rattle.reals.specs.Order.{greater}
use Rattle.reals.specs.Seen.{seen_elapsed}
use Rattle.reals.specs.Sign.{is_sign_negative}
use Rattle.reals.specs.Switch.{switch}
use Rattle.reals.proofs.FloatOrder.{lt_le, not-lt→le}
use Rattle.reals.proofs.Round.{zero_is, neg_round, zero_rounds}
use Rattle.reals.proofs.Times.{self_gap}
use Rattle.moving_average.specs.Constants.{delta, min_delta, start_offset}
use Rattle.moving_average.specs.Window.{same_time, drop_old, ends_at, store}
use Rattle.moving_average.specs.Integral.{on_line, integral_after, integral_at}
use Rattle.moving_average.specs.State.{held, written, cutoff, start_time, mu_now, averaged_time, moving_average_new, moving_average_output, moving_average_is_full, moving_average_stored, moving_average_update}

-- ---- R1: the first row's mean is 0 at any pressure

-- 0 times a finite number is a zero, and 0 plus a zero is 0
round_zero : (s : Bool) (c : ℕ) → 0 < c → round binary64 s 0 c ≡ cond s (neg plus_zero) plus_zero
round_zero true c h = neg_round binary64 0 c ∙ ap neg (zero_rounds 0 c h)
round_zero false c h = zero_rounds 0 c h

zero_product : (s : Bool) (m : ℕ) (e : ℤ) → mul binary64 (fin s m e) plus_zero ≡ cond s (neg plus_zero) plus_zero
unfolding mul
zero_product true m e = ap (mul binary64 (fin true m e)) zero_is ∙ rw (mul-zero (m * up e)) (round_zero true (down e * 1) (mul-pos (down_pos e) (omega arith)))
zero_product false m e = ap (mul binary64 (fin false m e)) zero_is ∙ rw (mul-zero (m * up e)) (round_zero false (down e * 1) (mul-pos (down_pos e) (omega arith)))

first_mu : (u : Float) → T (finite u) → add binary64 plus_zero (mul binary64 u plus_zero) ≡ plus_zero
first_mu nan h = absurd h
first_mu (inf s) h = absurd h
first_mu (fin true m e) h = rw (zero_product true m e) (unfold add sum neg round of_bits in refl)
first_mu (fin false m e) h = rw (zero_product false m e) (unfold add sum round of_bits in refl)

-- 0 divided by a number above 0 is 0
quotient : (y : Float) → T (lt (fin false 0 (pos 0)) y) → div binary64 (fin false 0 (pos 0)) y ≡ plus_zero
unfolding lt div
quotient nan h = absurd h
quotient (inf true) h = absurd h
quotient (inf false) h = sym zero_is
quotient (fin true n d) h = absurd h
quotient (fin false zero d) h = absurd (omega (arith, ltb→lt (0 * 1 * down d) (0 * up d * 1) h, zero-mul (up d), mul-one (0 * up d)))
quotient (fin false (suc n) d) h = rw (eqb-suc-zero n, zero-mul (down d)) (round_zero false (suc n * up d * 1) (mul-pos (mul-pos (zero-lt-suc n) (up_pos d)) (omega arith)))

zero_quotient : (y : Float) → T (lt plus_zero y) → div binary64 plus_zero y ≡ plus_zero
zero_quotient y h = ap (λ (z : Float). div binary64 z y) zero_is ∙ quotient y (rw zero_is at h)

-- the averaged time is above 0
least_above : T (lt plus_zero min_delta)
unfolding lt of_bits
least_above = tt

least_number : is_nan min_delta ≡ false
unfolding is_nan of_bits
least_number = refl

at_least : (x : Float) → T (lt plus_zero (greater x min_delta))
unfolding greater switch
at_least x = go (is_nan x) (lt x min_delta) refl refl
  where
    go : (n l : Bool) → is_nan x ≡ n → lt x min_delta ≡ l → T (lt plus_zero (cond n min_delta (cond l min_delta x)))
    go true l p q = least_above
    go false true p q = least_above
    go false false p q = lt_le plus_zero min_delta x least_above (not-lt→le x min_delta p least_number q)

first_above : (t : Float) → T (finite t) → T (lt plus_zero (averaged_time t t t))
unfolding averaged_time
first_above t h = go (le (add binary64 t delta) t)
  where
    go : (b : Bool) → T (lt plus_zero (cond b (greater (sub binary64 t (greater (greater (cutoff t) t) t)) min_delta) (add binary64 (sub binary64 t t) start_offset)))
    go true = at_least (sub binary64 t (greater (greater (cutoff t) t) t))
    go false = rw (self_gap t h) (unfold lt add sum round of_bits in tt)

zero_finite : T (finite plus_zero)
unfolding of_bits
zero_finite = tt

pub first_mean : (t u : Float) → T (finite t) → T (finite u) → moving_average_output moving_average_new t u ≡ plus_zero
unfolding moving_average_output moving_average_new start_time mu_now seen_elapsed held zip_with drop_old integral_at
first_mean t u a b = rw (first_mu u b, self_gap plus_zero zero_finite) (zero_quotient (averaged_time t t t) (first_above t a))

-- ---- R2: second row, 15 s later, pressure 18
pub second_mean : (u : Float) → T (finite u) → moving_average_output (moving_average_update moving_average_new (whole 0) u) (whole 15) (whole 18) ≡ div binary64 (whole 270) (add binary64 (whole 15) start_offset)
unfolding moving_average_output moving_average_update moving_average_stored moving_average_new moving_average_is_full start_time mu_now seen_elapsed
second_mean u h =
    rw (first_mu u h)
    (unfold held written zip_with drop_old ends_at store same_time is_sign_negative integral_at integral_after on_line averaged_time greater add sub sum neg mul div le lt eq round of_bits in refl)
