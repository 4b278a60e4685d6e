-- The window of a sampled CDL.Reals.MovingAverage: the integral of the input at the times of past rows, oldest first, as `prune` and `store` of
-- relief_fan_group.rs keep it.
use Rattle.std.specs.Prelude.{Bool, false, ◌&&◌, cond, Float}
use Rattle.std.specs.Bool.{beq}
use mathlib.Core.List.{List, [], ◌∷◌, ◌++◌, drop_last}
use Rattle.std.specs.Float.Ieee.{le, eq}
use Rattle.reals.specs.Sign.{is_sign_negative}

-- a time, and the integral of the input from the start up to it
pub record Point : Type 0 where
  pub time : Float
  pub integral : Float

abbrev pub point : Float → Float → Point
point t mu = record { time = t; integral = mu }

-- Two times are the same where they are equal and so are their sign bits: where they have one 64-bit pattern, as the Rust asks by `to_bits`
-- (proofs/SameTime.antt). So 0.0 and -0.0 are two times. A NaN, whose pattern is free, is the same as none, itself included; no accepted row has one.
unfoldable pub same_time : Float → Float → Bool
same_time a b = eq a b && beq (is_sign_negative a) (is_sign_negative b)

-- while a second point exists at or before the cutoff, the first goes: `prune`
unfoldable pub drop_old : Float → List Point → List Point
drop_old cutoff [] = []
drop_old cutoff (p ∷ []) = p ∷ []
drop_old cutoff (p ∷ q ∷ ps) = cond (le q.time cutoff) (drop_old cutoff (q ∷ ps)) (p ∷ q ∷ ps)

-- the last point is at t
unfoldable pub ends_at : Float → List Point → Bool
ends_at t [] = false
ends_at t (p ∷ []) = same_time p.time t
ends_at t (p ∷ q ∷ ps) = ends_at t (q ∷ ps)

-- p comes last; it replaces the last point where that is at the same time: `store`
unfoldable pub store : Point → List Point → List Point
store p ps = cond (ends_at p.time ps) (drop_last ps) ps ++ (p ∷ [])
