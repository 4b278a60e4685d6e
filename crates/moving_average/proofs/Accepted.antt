-- Lists of accepted times, newest first: they do not rise, and what dropping leaves is read off all of them. Assumes nothing.
use mathlib.Core.Path.{◌≡◌, refl, ap, ◌∙◌}
use mathlib.Core.Bool.{Bool, true, false, not, ◌&&◌, cond}
use mathlib.Core.List.{List, [], ◌∷◌}
use lib.Dec.{T}
use lib.Ieee.{Float, nan, inf, fin, le, lt, eq, is_nan, of_bits}
use lib.Ieee.Scale.{finite}
use lib.Ieee.Fits.{and_i, and_l, and_r}
use borrow.Author.Tests.{not-true}
use Rattle.reals.specs.Sign.{is_sign_negative, is_time}
use Rattle.reals.proofs.Truth.{is_true, table1}
use Rattle.reals.proofs.Times.{minus_mono}
use Rattle.reals.proofs.FloatOrder.{not-lt→le}
use Rattle.moving_average.specs.Constants.{delta}
use Rattle.moving_average.specs.Window.{same_time}
use Rattle.moving_average.specs.State.{cutoff}
use Rattle.moving_average.specs.Past.{from, different, different_before, window_times, last_time_is, window_is_full, below_last, time_accepted, accepted}
use Rattle.moving_average.proofs.Descending.{Descending, descending_cons, descending_tail, from_from}

-- ---- one time
time_clear : (x : Float) → T (is_time x) → is_sign_negative x ≡ false
time_clear x a = not-true (is_sign_negative x) (is_true (not (is_sign_negative x)) (and_r (finite x) (not (is_sign_negative x)) a))

time_number : (x : Float) → T (is_time x) → is_nan x ≡ false
unfolding is_nan
time_number nan a = absurd a
time_number (inf s) a = refl
time_number (fin s m e) a = refl

-- equal ones are the same time
same_time_is : (x t : Float) → T (is_time x) → T (is_time t) → same_time x t ≡ eq x t
unfolding same_time
same_time_is x t a b = rw (time_clear x a, time_clear t b) (table1 (λ y. y && true) (λ y. y) tt (eq x t))

-- ---- a row, and a list of rows, that was accepted
pub is_time_lem : (h : List Float) (t : Float) → T (time_accepted h t) → T (is_time t)
is_time_lem h t a = and_l (is_time t) (not (below_last h t)) a

pub head_accepted : (t : Float) (h : List Float) → T (accepted (t ∷ h)) → T (time_accepted h t)
unfolding accepted
head_accepted t h a = and_l (time_accepted h t) (not (window_is_full h t) && accepted h) a

pub head_room : (t : Float) (h : List Float) → T (accepted (t ∷ h)) → window_is_full h t ≡ false
unfolding accepted
head_room t h a = not-true (window_is_full h t) (is_true (not (window_is_full h t)) (and_l (not (window_is_full h t)) (accepted h) (and_r (time_accepted h t) (not (window_is_full h t) && accepted h) a)))

pub tail_accepted : (t : Float) (h : List Float) → T (accepted (t ∷ h)) → T (accepted h)
unfolding accepted
tail_accepted t h a = and_r (not (window_is_full h t)) (accepted h) (and_r (time_accepted h t) (not (window_is_full h t) && accepted h) a)

pub accepted_cons : (t : Float) (h : List Float) → T (time_accepted h t) → window_is_full h t ≡ false → T (accepted h) → T (accepted (t ∷ h))
unfolding accepted
accepted_cons t h b e a = and_i (time_accepted h t) (not (window_is_full h t) && accepted h) b (rw e a)

head_time : (t : Float) (h : List Float) → T (accepted (t ∷ h)) → T (is_time t)
head_time t h a = is_time_lem h t (head_accepted t h a)

not_below : (p t : Float) (h : List Float) → T (is_time p) → T (time_accepted (p ∷ h) t) → T (le p t)
not_below p t h b a =
    not-lt→le t p (time_number t (is_time_lem (p ∷ h) t a)) (time_number p b)
    (not-true (lt t p) (is_true (not (lt t p)) (and_r (is_time t) (not (lt t p)) a)))

descending : (h : List Float) → T (accepted h) → Descending h
descending [] a = tt
descending (t ∷ []) a = (tt, tt)
descending (t ∷ p ∷ h) a =
    let b = tail_accepted t (p ∷ h) a in
    descending_cons t p h (not_below p t h (head_time p h b) (head_accepted t (p ∷ h) a)) (descending (p ∷ h) b)

-- ---- the times that the window has points at: the last one, and those that it found after dropping
unfoldable pub windowed : List Float → List Float
windowed [] = []
windowed (t ∷ h) = t ∷ from (cutoff t) h

pub descending_windowed : (h : List Float) → T (accepted h) → Descending (windowed h)
unfolding windowed
descending_windowed [] a = tt
descending_windowed (t ∷ h) a = descending_tail (cutoff t) t h (descending (t ∷ h) a)

delta_time : T (is_time delta)
unfolding of_bits is_sign_negative
delta_time = tt

-- a later row finds the same after dropping as of all times
pub from_windowed : (h : List Float) (t : Float) → T (accepted h) → T (time_accepted h t) → from (cutoff t) (windowed h) ≡ from (cutoff t) h
unfolding windowed from
from_windowed [] t a b = refl
from_windowed (p ∷ h) t a b =
    let i = head_time p h a in
    let l = minus_mono p t delta i (is_time_lem (p ∷ h) t b) delta_time (not_below p t h i b) in
    ap (λ (r : List Float). cond (le p (cutoff t)) (p ∷ []) (p ∷ r)) (from_from (cutoff p) (cutoff t) h l)

-- ---- the newest time is t
unfoldable pub newest_is : Float → List Float → Bool
newest_is t [] = false
newest_is t (x ∷ w) = same_time x t

-- it goes where it is t
unfoldable pub replaced : Float → List Float → List Float
replaced t [] = []
replaced t (x ∷ w) = cond (same_time x t) w (x ∷ w)

-- both read with the equality of numbers
pub newest_reads : (h : List Float) (t : Float) → T (accepted h) → T (time_accepted h t) → newest_is t (window_times h t) ≡ last_time_is t h
unfolding newest_is from different
newest_reads [] t a b = refl
newest_reads (p ∷ h) t a b = go (le p (cutoff t)) ∙ same_time_is p t (head_time p h a) (is_time_lem (p ∷ h) t b)
  where
    go : (y : Bool) → newest_is t (different (cond y (p ∷ []) (p ∷ from (cutoff t) h))) ≡ same_time p t
    go true = refl
    go false = refl

pub replaced_reads : (h : List Float) (t : Float) → T (accepted h) → T (time_accepted h t) → replaced t (window_times h t) ≡ different_before t (from (cutoff t) h)
unfolding replaced from different different_before
replaced_reads [] t a b = refl
replaced_reads (p ∷ h) t a b = go (le p (cutoff t)) (same_time_is p t (head_time p h a) (is_time_lem (p ∷ h) t b))
  where
    go : (y : Bool) → same_time p t ≡ eq p t → replaced t (different (cond y (p ∷ []) (p ∷ from (cutoff t) h))) ≡ different_before t (cond y (p ∷ []) (p ∷ from (cutoff t) h))
    go true e = rw e
    go false e = rw e
