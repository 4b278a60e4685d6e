-- CDL.Reals.MovingAverage with delta = 300 s, sampled at the rows: `MovingAverageState` of relief_fan_group.rs. The window's points stand in two arrays of 512
-- with a count.
use Rattle.std.specs.Prelude.{Bool, not, ◌&&◌, ◌||◌, cond, eqb, ltb, length, take, drop, replicate, Float, Option, None, Some, is_none}
use mathlib.Core.List.{List, [], ◌∷◌, ◌++◌, map, zip_with}
use Rattle.std.specs.Float.{binary64}
use Rattle.std.specs.Float.Ieee.{add, sub, mul, div, le}
use Rattle.reals.specs.Constants.{plus_zero}
use Rattle.reals.specs.Order.{greater}
use Rattle.reals.specs.Seen.{seen_elapsed}
use Rattle.moving_average.specs.declared.state.MovingAverageState.{MovingAverageState}
use Rattle.moving_average.specs.Constants.{delta, min_delta, start_offset, capacity}
use Rattle.moving_average.specs.Window.{Point, point, drop_old, ends_at, store}
use Rattle.moving_average.specs.Integral.{integral_at}

-- ---- the arrays

-- the window: the points in the first `count` entries, oldest first. Where the count is above 512, which no row leaves, all 512 entries are points.
unfoldable pub held : MovingAverageState → List Point
held s = zip_with point (take s.count s.times) (take s.count s.integrals)

-- an array with new entries at its front; the entries past them are kept as they were
unfoldable pub written : List Float → List Float → List Float
written new old = new ++ drop (length new) old

-- ---- the mean

-- the time of the first row, which this one is where none was before
unfoldable pub start_time : Option Float → Float → Float → Float
start_time prev start t = cond (is_none prev) t start

-- the integral up to t: the input counts for the time since the row before. `mu_now`
unfoldable pub mu_now : Option Float → Float → Float → Float → Float
mu_now prev mu t input = add binary64 mu (mul binary64 input (seen_elapsed prev t))

-- delta before t: where the averaged time begins, and old points end
abbrev pub cutoff : Float → Float
cutoff t = sub binary64 t delta

-- the first point's time, or the start where there is none
abbrev pub first_time : Float → List Point → Float
first_time start [] = start
first_time start (p ∷ ps) = p.time

-- How long the averaged time is: `denom` of the Rust's `output`. From delta after the start on, it begins at the latest of cutoff, first point and start, and is at
-- least minDelta; before that it begins at the start, and startOffset is added.
unfoldable pub averaged_time : Float → Float → Float → Float
averaged_time start first t =
    cond (le (add binary64 start delta) t)
    (greater (sub binary64 t (greater (greater (cutoff t) first) start)) min_delta)
    (add binary64 (sub binary64 t start) start_offset)

-- the mean of the input over the last 300 s, by the window before old points are dropped: (mu - muDel) / denom
unfoldable pub moving_average_output : MovingAverageState → Float → Float → Float
moving_average_output s t input =
    let start = start_time s.prev_t s.t_start t in
    let mu = mu_now s.prev_t s.mu t input in
    div binary64 (sub binary64 mu (integral_at (cutoff t) (held s) (point t mu))) (averaged_time start (first_time start (held s)) t)

-- ---- the next state

-- refusal 4: after dropping old points the window holds 512 and the last point's time differs, or the state counts more than 512 points
unfoldable pub moving_average_is_full : MovingAverageState → Float → Bool
moving_average_is_full s t =
    let window = drop_old (cutoff t) (held s) in
    ltb capacity s.count || (eqb (length window) capacity && not (ends_at t window))

-- the state after a row that the window has room for
unfoldable pub moving_average_stored : MovingAverageState → Float → Float → MovingAverageState
moving_average_stored s t input =
    let mu = mu_now s.prev_t s.mu t input in
    let window = store (point t mu) (drop_old (cutoff t) (held s)) in
    record {
      t_start = start_time s.prev_t s.t_start t;
      prev_t = Some t;
      mu = mu;
      times = written (map (λ p. p.time) window) s.times;
      integrals = written (map (λ p. p.integral) window) s.integrals;
      count = length window;
    }

-- A full window takes no point: the state stays as it is. (The Rust's list of points has no limit; here refusal 4 keeps such a row out.)
unfoldable pub moving_average_update : MovingAverageState → Float → Float → MovingAverageState
moving_average_update s t input = cond (moving_average_is_full s t) s (moving_average_stored s t input)

-- before row 0: no points
unfoldable pub moving_average_new : MovingAverageState
moving_average_new =
    record { t_start = plus_zero; prev_t = None; mu = plus_zero; times = replicate capacity plus_zero; integrals = replicate capacity plus_zero; count = 0 }
