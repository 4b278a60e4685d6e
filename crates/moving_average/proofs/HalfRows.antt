-- Case R5, computed from the reading: rows each 0.5 s from 0. 512 are accepted, the row at 256 is refused, 300 would be too, 300.5 is taken. Assumes nothing.
use Prim.Native.Nat.{ℕ, zero, suc, ◌<◌, ◌≤◌}
use native.Mathlib.Omega.{arith}
use mathlib.Core.Path.{◌≡◌, refl, ap₂, ◌∙◌}
use mathlib.Core.Bool.{Bool, true, false, ◌&&◌, cond}
use mathlib.Core.List.{List, [], ◌∷◌, map}
use lib.Dec.{T}
use lib.ListN.{length}
use lib.Ieee.{Float, binary64, add, sub, sum, neg, le, lt, eq, round, of_bits}
use lib.Ieee.Fits.{and_l, and_r}
use borrow.Author.Tests.{ne_eqb}
use Rattle.reals.specs.Sign.{is_sign_negative}
use Rattle.moving_average.specs.State.{cutoff, moving_average_is_full}
use Rattle.moving_average.specs.Past.{from, different, different_before, window_times, time_accepted, window_is_full, accepted, moving_average_of}
use Rattle.moving_average.proofs.Accepted.{accepted_cons}
use Rattle.moving_average.proofs.Reading.{is_full_reads}

-- fewer than 512 rows leave room for one more
from_length : (c : Float) (h : List Float) → length (from c h) ≤ length h
unfolding from
from_length c [] = omega arith
from_length c (t ∷ h) = go (le t c) (from_length c h)
  where
    go : (b : Bool) → length (from c h) ≤ length h → length (cond b (t ∷ []) (t ∷ from c h)) ≤ suc (length h)
    go true l = omega arith
    go false l = omega arith

before_length : (later : Float) (h : List Float) → length (different_before later h) ≤ length h
unfolding different_before
before_length later [] = omega arith
before_length later (t ∷ h) = go (eq t later) (before_length t h)
  where
    go : (b : Bool) → length (different_before t h) ≤ length h → length (cond b (different_before t h) (t ∷ different_before t h)) ≤ suc (length h)
    go true l = omega arith
    go false l = omega arith

different_length : (h : List Float) → length (different h) ≤ length h
unfolding different
different_length [] = omega arith
different_length (t ∷ h) = omega (arith, before_length t h)

few : (h : List Float) (t : Float) → length h < 512 → window_is_full h t ≡ false
unfolding window_is_full
few h t l = rw (ne_eqb (length (window_times h t)) 512 (λ e. omega (arith, different_length (from (cutoff t) h), from_length (cutoff t) h)))

-- the times alone
times_accepted : List Float → Bool
times_accepted [] = true
times_accepted (t ∷ h) = time_accepted h t && times_accepted h

few_accepted : (h : List Float) → length h ≤ 512 → T (times_accepted h) → T (accepted h)
unfolding times_accepted accepted
few_accepted [] l a = tt
few_accepted (t ∷ h) l a =
    accepted_cons t h (and_l (time_accepted h t) (times_accepted h) a) (few h t (omega arith)) (few_accepted h (omega arith) (and_r (time_accepted h t) (times_accepted h) a))

-- n half seconds, and the first n of them from 0 on, newest first
abbrev pub half_seconds : ℕ → Float
half_seconds n = round binary64 false n 2

abbrev pub halves : ℕ → List Float
halves zero = []
halves (suc n) = half_seconds n ∷ halves n

pub half_rows_accepted : T (accepted (halves 512))
unfolding times_accepted is_sign_negative lt round
half_rows_accepted = few_accepted (halves 512) (omega arith) tt

-- at 256, 300 and 300.5 s
pub half_rows_full : map (window_is_full (halves 512)) (half_seconds 512 ∷ half_seconds 600 ∷ half_seconds 601 ∷ []) ≡ true ∷ true ∷ false ∷ []
unfolding window_is_full from different different_before add sub sum neg le lt eq round of_bits
half_rows_full = refl

-- so a state that took the 512 rows, with any pressures, refuses rows at 256 and 300 s and takes one at 300.5 s
each : List Float → List Float → Bool
each h [] = true
each h (t ∷ ts) = time_accepted h t && each h ts

module _ (pressure : Float → Float) where
  each_reads : (h : List Float) → T (accepted (map (λ t. t) h)) → (ts : List Float) → T (each (map (λ t. t) h) ts)
      → map (moving_average_is_full (moving_average_of (λ t. t) pressure h)) ts ≡ map (window_is_full (map (λ t. t) h)) ts
  unfolding each
  each_reads h a [] b = refl
  each_reads h a (t ∷ ts) b =
      let past = map (λ t. t) h in
      ap₂ (λ (x : Bool) (r : List Bool). x ∷ r)
      (is_full_reads (λ t. t) pressure h a t (and_l (time_accepted past t) (each past ts) b)) (each_reads h a ts (and_r (time_accepted past t) (each past ts) b))

  pub half_rows : map (moving_average_is_full (moving_average_of (λ t. t) pressure (halves 512))) (half_seconds 512 ∷ half_seconds 600 ∷ half_seconds 601 ∷ []) ≡ true ∷ true ∷ false ∷ []
  unfolding each is_sign_negative lt round
  half_rows = each_reads (halves 512) half_rows_accepted (half_seconds 512 ∷ half_seconds 600 ∷ half_seconds 601 ∷ []) tt ∙ half_rows_full
