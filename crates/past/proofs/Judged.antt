-- Rows that are not refused by 1, 2 or 3 have times in order. Assumes nothing.
use Rattle.std.specs.Prelude.{Ok}
use mathlib.Core.Path.{◌≡◌, refl}
use mathlib.Core.Bool.{Bool, false, not, ◌&&◌}
use mathlib.Core.List.{List, [], ◌∷◌}
use lib.Dec.{T}
use lib.Ieee.{Float, nan, inf, fin, is_nan}
use lib.Ieee.Fits.{and_i}
use lib.Ieee.Scale.{finite}
use Rattle.reals.specs.Sign.{is_time, is_sign_negative}
use Rattle.reals.specs.Seen.{seen_above}
use Rattle.reals.proofs.FloatOrder.{not-lt→le}
use Rattle.refusals.specs.Refusals.{judge}
use Rattle.refusals.proofs.Accepting.{judged}
use Rattle.past.specs.Acceptance.{last_time}
use Rattle.past.specs.Stepped.{not_before, in_order}
use Rattle.past.proofs.Stepped.{time_here}

finite_number : (x : Float) → T (finite x) → is_nan x ≡ false
unfolding is_nan
finite_number nan h = absurd h
finite_number (inf s) h = absurd h
finite_number (fin s m e) h = refl

pub time_number : (x : Float) → T (is_time x) → is_nan x ≡ false
unfolding is_nan
time_number nan h = absurd h
time_number (inf s) h = refl
time_number (fin s m e) h = refl

module _ {R : Type 0} (time : R → Float) (all_finite : R → Bool) (time_finite : (x : R) → T (all_finite x) → T (finite (time x))) where
  -- refusal 3 leaves a time that is not below the one before
  not_before_lem : (t : Float) → is_nan t ≡ false → (h : List R) → T (in_order time h) → seen_above (last_time time h) t ≡ false → T (not_before time t h)
  unfolding seen_above
  not_before_lem t a [] o e = tt
  not_before_lem t a (y ∷ h) o e = not-lt→le t (time y) a (time_number (time y) (time_here time y h o)) e

  pub judged_in_order : (x : R) (h : List R) → T (in_order time h) → judge (all_finite x) (time x) (last_time time h) ≡ Ok tt → T (in_order time (x ∷ h))
  unfolding judge
  judged_in_order x h o e =
      let tests = judged (all_finite x) (time x) (seen_above (last_time time h) (time x)) e in
      let f : T (finite (time x)) = time_finite x tests.0 in
      and_i (is_time (time x) && not_before time (time x) h) (in_order time h)
      (and_i (is_time (time x)) (not_before time (time x) h) (and_i (finite (time x)) (not (is_sign_negative (time x))) f (rw tests.1 tt)) (not_before_lem (time x) (finite_number (time x) f) h o tests.2)) o
