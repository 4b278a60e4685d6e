-- A block whose state is a function of the past at its start and one row further is so after every list. Assumes nothing.
use mathlib.Core.Path.{◌≡◌}
use mathlib.Core.Bool.{not, ◌&&◌}
use mathlib.Core.List.{List, [], ◌∷◌}
use lib.Dec.{T}
use lib.Ieee.{Float, binary64, sub}
use lib.Ieee.Scale.{finite}
use lib.Ieee.Fits.{and_l, and_r}
use Rattle.reals.specs.Constants.{plus_zero}
use Rattle.reals.specs.Order.{greater}
use Rattle.reals.specs.Sign.{is_time, is_sign_negative}
use Rattle.reals.proofs.Times.{gap_kept}
use Rattle.past.specs.Stepped.{stepped, not_before, in_order}

module _ {A S : Type 0} (new : S) (update : S → List A → S) (of : List A → S) where
  pub stepped_is : new ≡ of [] → ((x : A) (h : List A) → update (of h) (x ∷ h) ≡ of (x ∷ h)) → (h : List A) → stepped new update h ≡ of h
  stepped_is e f [] = e
  stepped_is e f (x ∷ h) = rw (stepped_is e f h) (f x h)

  -- the same over the times of accepted rows
  pub stepped_in_order : (time : A → Float) → new ≡ of [] → ((x : A) (h : List A) → T (in_order time (x ∷ h)) → update (of h) (x ∷ h) ≡ of (x ∷ h))
      → (h : List A) → T (in_order time h) → stepped new update h ≡ of h
  stepped_in_order time e f [] o = e
  stepped_in_order time e f (x ∷ h) o = rw (stepped_in_order time e f h (and_r (is_time (time x) && not_before time (time x) h) (in_order time h) o)) (f x h o)

module _ {A : Type 0} (time : A → Float) where
  -- the rows before are in order too, and none is later than the row here
  pub order_before : (x : A) (h : List A) → T (in_order time (x ∷ h)) → T (in_order time h)
  order_before x h o = and_r (is_time (time x) && not_before time (time x) h) (in_order time h) o

  pub order_here : (x : A) (h : List A) → T (in_order time (x ∷ h)) → T (not_before time (time x) h)
  order_here x h o = and_r (is_time (time x)) (not_before time (time x) h) (and_l (is_time (time x) && not_before time (time x) h) (in_order time h) o)

  pub time_here : (x : A) (h : List A) → T (in_order time (x ∷ h)) → T (is_time (time x))
  time_here x h o = and_l (is_time (time x)) (not_before time (time x) h) (and_l (is_time (time x) && not_before time (time x) h) (in_order time h) o)

  pub finite_here : (x : A) (h : List A) → T (in_order time (x ∷ h)) → T (finite (time x))
  finite_here x h o = and_l (finite (time x)) (not (is_sign_negative (time x))) (time_here x h o)

  -- the gap to the row before is not cut at 0
  pub gap_here : (x z : A) (h : List A) → T (in_order time (x ∷ (z ∷ h))) → greater (sub binary64 (time x) (time z)) plus_zero ≡ sub binary64 (time x) (time z)
  gap_here x z h o =
      gap_kept (time x) (time z) (time_here x (z ∷ h) o) (time_here z h (order_before x (z ∷ h) o)) (order_here x (z ∷ h) o)
