-- Lists of times that do not rise, newest first: their part from a limit on, their different times, and dropping, which works from the other end. Assumes nothing.
use mathlib.Core.Path.{◌≡◌, refl, ap, ◌∙◌}
use mathlib.Core.Bool.{Bool, true, false, cond}
use mathlib.Core.List.{List, [], ◌∷◌, ◌++◌, map, reverse, reverse-cons}
use lib.Dec.{T}
use lib.Ieee.{Float, le, eq}
use Rattle.reals.proofs.Truth.{is_true, holds, fails}
use Rattle.reals.proofs.FloatOrder.{le_trans, eq→le}
use Rattle.moving_average.specs.Window.{Point, drop_old}
use Rattle.moving_average.specs.Past.{from, different, different_before}

-- what holds of both arms holds of the one taken
by_cond : (P : List Float → Type 0) (b : Bool) {x y : List Float} → P x → P y → P (cond b x y)
by_cond P true p q = p
by_cond P false p q = q

-- every time is at or before c
abbrev AllLe : Float → List Float → Type 0
AllLe c [] = Unit {0}
AllLe c (t ∷ h) = T (le t c) × AllLe c h

-- no time is above a newer one
abbrev pub Descending : List Float → Type 0
Descending [] = Unit {0}
Descending (t ∷ h) = AllLe t h × Descending h

all_up : (c d : Float) (h : List Float) → T (le c d) → AllLe c h → AllLe d h
all_up c d [] l a = tt
all_up c d (t ∷ h) l a = (le_trans t c d a.0 l, all_up c d h l a.1)

pub descending_cons : (t p : Float) (h : List Float) → T (le p t) → Descending (p ∷ h) → Descending (t ∷ p ∷ h)
descending_cons t p h l d = ((l, all_up p t h l d.0), d)

-- ---- the part from a limit on, and the different times, do not rise either
all_from : (c d : Float) (h : List Float) → AllLe c h → AllLe c (from d h)
unfolding from
all_from c d [] a = tt
all_from c d (t ∷ h) a = by_cond (AllLe c) (le t d) (a.0, tt) (a.0, all_from c d h a.1)

descending_from : (d : Float) (h : List Float) → Descending h → Descending (from d h)
unfolding from
descending_from d [] a = tt
descending_from d (t ∷ h) a = by_cond Descending (le t d) (tt, tt) (all_from t d h a.0, descending_from d h a.1)

pub descending_tail : (d t : Float) (h : List Float) → Descending (t ∷ h) → Descending (t ∷ from d h)
descending_tail d t h a = (all_from t d h a.0, descending_from d h a.1)

all_different : (c later : Float) (h : List Float) → AllLe c h → AllLe c (different_before later h)
unfolding different_before
all_different c later [] a = tt
all_different c later (t ∷ h) a = by_cond (AllLe c) (eq t later) (all_different c t h a.1) (a.0, all_different c t h a.1)

descending_before : (later : Float) (h : List Float) → Descending h → Descending (different_before later h)
unfolding different_before
descending_before later [] a = tt
descending_before later (t ∷ h) a = by_cond Descending (eq t later) (descending_before t h a.1) (all_different t t h a.0, descending_before t h a.1)

descending_different : (h : List Float) → Descending h → Descending (different h)
unfolding different
descending_different [] a = tt
descending_different (t ∷ h) a = (all_different t t h a.0, descending_before t h a.1)

-- ---- a later limit takes a part of the part
pub from_from : (c d : Float) (h : List Float) → T (le c d) → from d (from c h) ≡ from d h
unfolding from
from_from c d [] l = refl
from_from c d (t ∷ h) l = go (le t c) (λ k. is_true (le t d) (le_trans t c d k l)) (from_from c d h l)
  where
    go : (b : Bool) → (T b → le t d ≡ true) → from d (from c h) ≡ from d h
        → from d (cond b (t ∷ []) (t ∷ from c h)) ≡ cond (le t d) (t ∷ []) (t ∷ from d h)
    go true f e = rw (f tt)
    go false f e = rw e

-- ---- the part of the different times is the different times of the part
from_before : (c later : Float) (h : List Float) → le later c ≡ false → from c (different_before later h) ≡ different_before later (from c h)
unfolding from different_before
from_before c later [] n = refl
from_before c later (t ∷ h) n = go (eq t later) (le t c) refl refl (from_before c t h)
  where
    go : (same old : Bool) → eq t later ≡ same → le t c ≡ old → (le t c ≡ false → from c (different_before t h) ≡ different_before t (from c h))
        → from c (different_before later (t ∷ h)) ≡ different_before later (from c (t ∷ h))
    go true true p q e = absurd (fails (le later c) n (le_trans later t c (eq→le t later (holds (eq t later) p)).1 (holds (le t c) q)))
    go true false p q e = simp (p, q) (e q)
    go false true p q e = simp (p, q)
    go false false p q e = simp (p, q, e q)

from_different : (c : Float) (h : List Float) → from c (different h) ≡ different (from c h)
unfolding from different
from_different c [] = refl
from_different c (t ∷ h) = go (le t c) refl (from_before c t h)
  where
    go : (old : Bool) → le t c ≡ old → (le t c ≡ false → from c (different_before t h) ≡ different_before t (from c h)) → from c (different (t ∷ h)) ≡ different (from c (t ∷ h))
    go true q e = simp q (unfold different_before in refl)
    go false q e = simp (q, e q)

-- ---- dropping, on the times alone, oldest first
drop_times : Float → List Float → List Float
drop_times c [] = []
drop_times c (a ∷ []) = a ∷ []
drop_times c (a ∷ b ∷ w) = cond (le b c) (drop_times c (b ∷ w)) (a ∷ b ∷ w)

drop_times_lem : (c : Float) (ps : List Point) → map (λ p. p.time) (drop_old c ps) ≡ drop_times c (map (λ p. p.time) ps)
unfolding drop_old drop_times
drop_times_lem c [] = refl
drop_times_lem c (p ∷ []) = refl
drop_times_lem c (p ∷ q ∷ ps) = go (le q.time c) (drop_times_lem c (q ∷ ps))
  where
    go : (b : Bool) → map (λ p. p.time) (drop_old c (q ∷ ps)) ≡ drop_times c (map (λ p. p.time) (q ∷ ps))
        → map (λ p. p.time) (cond b (drop_old c (q ∷ ps)) (p ∷ q ∷ ps)) ≡ cond b (drop_times c (map (λ p. p.time) (q ∷ ps))) (map (λ p. p.time) (p ∷ q ∷ ps))
    go true e = e
    go false e = refl

-- a last time after the cutoff stays, and so does all that stays without it
keep_last : (c x : Float) (v : List Float) → le x c ≡ false → drop_times c (v ++ (x ∷ [])) ≡ drop_times c v ++ (x ∷ [])
unfolding drop_times
keep_last c x [] n = refl
keep_last c x (a ∷ []) n = simp n
keep_last c x (a ∷ b ∷ v) n = go (le b c) (keep_last c x (b ∷ v) n)
  where
    go : (y : Bool) → drop_times c (b ∷ (v ++ (x ∷ []))) ≡ drop_times c (b ∷ v) ++ (x ∷ [])
        → cond y (drop_times c (b ∷ (v ++ (x ∷ [])))) (a ∷ b ∷ (v ++ (x ∷ []))) ≡ cond y (drop_times c (b ∷ v)) (a ∷ b ∷ v) ++ (x ∷ [])
    go true e = e
    go false e = refl

-- of times all at or before the cutoff the last one stays
only_last : (c x : Float) (v : List Float) → AllLe c v → T (le x c) → drop_times c (v ++ (x ∷ [])) ≡ x ∷ []
unfolding drop_times
only_last c x [] a l = refl
only_last c x (y ∷ []) a l = simp (is_true (le x c) l)
only_last c x (y ∷ z ∷ v) a l = rw (is_true (le z c) a.1.0) (only_last c x (z ∷ v) a.1 l)

all_snoc : (c x : Float) (v : List Float) → AllLe c v → T (le x c) → AllLe c (v ++ (x ∷ []))
all_snoc c x [] a l = (l, tt)
all_snoc c x (y ∷ v) a l = (a.0, all_snoc c x v a.1 l)

all_reverse : (c : Float) (w : List Float) → AllLe c w → AllLe c (reverse w)
all_reverse c [] a = tt
all_reverse c (x ∷ w) a = rw (reverse-cons x w) (all_snoc c x (reverse w) (all_reverse c w a.1) a.0)

-- dropping from the old end leaves the part from the cutoff on
drop_from : (c : Float) (w : List Float) → Descending w → drop_times c (reverse w) ≡ reverse (from c w)
unfolding from
drop_from c [] d = unfold drop_times in refl
drop_from c (x ∷ w) d = rw (reverse-cons x w) (go (le x c) refl (drop_from c w d.1))
  where
    go : (b : Bool) → le x c ≡ b → drop_times c (reverse w) ≡ reverse (from c w) → drop_times c (reverse w ++ (x ∷ [])) ≡ reverse (cond b (x ∷ []) (x ∷ from c w))
    go true q e = let l = holds (le x c) q in only_last c x (reverse w) (all_reverse c w (all_up x c w l d.0)) l
    go false q e = keep_last c x (reverse w) q ∙ rw (e, reverse-cons x (from c w))

-- points at the different times of h, oldest first: dropping leaves those of the part from the cutoff on
pub drop_reads : (c : Float) (h : List Float) (ps : List Point) → Descending h → map (λ p. p.time) ps ≡ reverse (different h) → map (λ p. p.time) (drop_old c ps) ≡ reverse (different (from c h))
drop_reads c h ps d e = drop_times_lem c ps ∙ ap (drop_times c) e ∙ drop_from c (different h) (descending_different h d) ∙ ap reverse (from_different c h)
