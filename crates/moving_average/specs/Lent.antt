-- Words for the helpers that work on the window's arrays where they stand, lent by reference. Of state.rt only the helper `integrator` is promised in them.
use Rattle.std.specs.Prelude.{ℕ, zero, suc, ◌-◌, Bool, false, not, ◌&&◌, ◌||◌, cond, eqb, ltb, List, get_or, Float, Option, None, Some}
use Rattle.std.specs.List.{prefix_len}
use Rattle.std.specs.Float.{nan}
use Rattle.std.specs.Float.Ieee.{le}
use Rattle.moving_average.specs.declared.state.MovingAverageState.{MovingAverageState}
use Rattle.moving_average.specs.declared.lent.Integrator.{Integrator}
use Rattle.std.proofs.Math.Seq.{slice}
use Rattle.moving_average.specs.Constants.{capacity}
use Rattle.moving_average.specs.State.{cutoff}
use Rattle.moving_average.specs.Window.{same_time}

-- the state that an integrator and the two arrays beside it are
abbrev pub joined : Integrator → List Float → List Float → MovingAverageState
joined s times integrals =
    record { t_start = s.t_start; prev_t = s.prev_t; mu = s.mu; times = times; integrals = integrals; count = s.count }

-- how many of the times, from the first on, are at or before the cutoff. Asked of the times from the second point on, it is how many points are dropped.
unfoldable pub leading : Float → List Float → ℕ
leading cutoff times = prefix_len (λ t. le t cutoff) times

-- the last of the first n times is t
unfoldable pub last_is : Float → ℕ → List Float → Bool
last_is t zero times = false
last_is t (suc n) times = same_time (get_or times n nan) t

-- the index of a new point, of a window that keeps n points: that of the last one where it is at the same time
unfoldable pub slot : ℕ → Bool → ℕ
slot zero same = zero
slot (suc n) same = cond same n (suc n)

-- where a row at t is put, of a window of n points with these times: how many points go from its front, and the index of the new one; none without room
unfoldable pub place : Float → ℕ → List Float → Option (ℕ × ℕ)
place t n times =
    let k = leading (cutoff t) (slice 1 n times) in
    let again = last_is t n times in
    cond (ltb capacity n || (eqb (n - k) capacity && not again)) None (Some (k, slot (n - k) again))
