-- The window's points beside the arrays that hold them: dropping, the last point and storing, by index. Assumes nothing.
use Prim.Native.Nat.{suc, ◌+◌}
use mathlib.Core.Path.{◌≡◌, refl, sym, ap, ◌∙◌}
use mathlib.Core.Bool.{Bool, true, false, cond}
use mathlib.Core.List.{List, [], ◌∷◌, ◌++◌, zip_with, map, drop_last}
use native.Mathlib.Omega.{arith}
use lib.ListN.{length, take, drop, get_or}
use lib.Seq.{take-length}
use lib.Ieee.{Float, le}
use Rattle.moving_average.specs.Window.{Point, point, drop_old, ends_at, store}
use Rattle.moving_average.specs.State.{first_time}
use Rattle.moving_average.specs.Lent.{leading, last_is, slot}
use Rattle.moving_average.proofs.Lists.{drop_last_is}

-- ---- the points of two arrays
pub times_of : (ts ms : List Float) → length ts ≡ length ms → map (λ p. p.time) (zip_with point ts ms) ≡ ts
unfolding zip_with
times_of [] ms e = refl
times_of (t ∷ ts) [] e = absurd (omega arith)
times_of (t ∷ ts) (m ∷ ms) e = ap (λ r. t ∷ r) (times_of ts ms (omega arith))

pub integrals_of : (ts ms : List Float) → length ts ≡ length ms → map (λ p. p.integral) (zip_with point ts ms) ≡ ms
unfolding zip_with
integrals_of [] [] e = refl
integrals_of [] (m ∷ ms) e = absurd (omega arith)
integrals_of (t ∷ ts) [] e = absurd (omega arith)
integrals_of (t ∷ ts) (m ∷ ms) e = ap (λ r. m ∷ r) (integrals_of ts ms (omega arith))

pub points_of : (ps : List Point) → zip_with point (map (λ p. p.time) ps) (map (λ p. p.integral) ps) ≡ ps
unfolding zip_with
points_of [] = refl
points_of (p ∷ ps) = ap (λ r. p ∷ r) (points_of ps)

pub first_is : (start : Float) (ts ms : List Float) → length ts ≡ length ms → first_time start (zip_with point ts ms) ≡ get_or ts 0 start
unfolding zip_with
first_is start [] ms e = refl
first_is start (t ∷ ts) [] e = absurd (omega arith)
first_is start (t ∷ ts) (m ∷ ms) e = refl

-- ---- dropping takes as many from the front as there are leading old times after the first
pub drop_old_is : (c : Float) (ps : List Point) → drop_old c ps ≡ drop (leading c (drop 1 (map (λ p. p.time) ps))) ps
unfolding drop_old leading
drop_old_is c [] = refl
drop_old_is c (p ∷ []) = refl
drop_old_is c (p ∷ q ∷ ps) = go (le q.time c) (drop_old_is c (q ∷ ps))
  where
    go : (b : Bool) → drop_old c (q ∷ ps) ≡ drop (leading c (map (λ p. p.time) ps)) (q ∷ ps)
        → cond b (drop_old c (q ∷ ps)) (p ∷ q ∷ ps) ≡ drop (cond b (1 + leading c (map (λ p. p.time) ps)) 0) (p ∷ q ∷ ps)
    go true ih =
        let k = leading c (map (λ p. p.time) ps) in
        let one : suc k ≡ 1 + k = omega arith in
        ih ∙ ap (λ n. drop n (p ∷ q ∷ ps)) one
    go false ih = refl

-- ---- the last point
pub ends_kept : (c t : Float) (ps : List Point) → ends_at t (drop_old c ps) ≡ ends_at t ps
unfolding drop_old ends_at
ends_kept c t [] = refl
ends_kept c t (p ∷ []) = refl
ends_kept c t (p ∷ q ∷ ps) = go (le q.time c) (ends_kept c t (q ∷ ps))
  where
    go : (b : Bool) → ends_at t (drop_old c (q ∷ ps)) ≡ ends_at t (q ∷ ps) → ends_at t (cond b (drop_old c (q ∷ ps)) (p ∷ q ∷ ps)) ≡ ends_at t (q ∷ ps)
    go true ih = ih
    go false ih = refl

pub ends_at_is : (t : Float) (ps : List Point) → ends_at t ps ≡ last_is t (length ps) (map (λ p. p.time) ps)
unfolding ends_at last_is
ends_at_is t [] = refl
ends_at_is t (p ∷ []) = refl
ends_at_is t (p ∷ q ∷ ps) = ends_at_is t (q ∷ ps)

-- ---- storing
pub store_is : (p : Point) (ps : List Point) → store p ps ≡ take (slot (length ps) (ends_at p.time ps)) ps ++ (p ∷ [])
unfolding store slot ends_at
store_is p [] = refl
store_is p (q ∷ ps) = go (ends_at p.time (q ∷ ps))
  where
    go : (b : Bool) → cond b (drop_last (q ∷ ps)) (q ∷ ps) ++ (p ∷ []) ≡ take (cond b (length ps) (suc (length ps))) (q ∷ ps) ++ (p ∷ [])
    go true = ap (λ r. r ++ (p ∷ [])) (drop_last_is q ps)
    go false = ap (λ r. r ++ (p ∷ [])) (sym (take-length (q ∷ ps)))
