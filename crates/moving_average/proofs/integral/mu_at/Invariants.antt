-- `mu_at`: the integral looked for is the one after (t0, m0), the point before those to come.
use Rattle.std.proofs.Common.{◌≡◌}
use Rattle.std.specs.Iterator.Adapters.{zip_first, zip_second}
use Rattle.std.specs.Slice.Iter.{iter_rest}
use mathlib.Core.List.{[], ◌∷◌, ◌++◌, zip_with}
use Rattle.moving_average.specs.Window.{point}
use Rattle.moving_average.specs.Integral.{integral_at, integral_after}
use Rattle.moving_average.proofs.integral.mu_at.Given as goal

abbrev pub invariant-loop-t1 : goal.invariant-loop-t1
invariant-loop-t1 l =
    integral_at l.target (zip_with point l.times l.integrals) (point l.t_now l.mu_now)
    ≡ integral_after l.target (point l.t0 l.m0)
    (zip_with point (iter_rest (zip_first l.t1-iterator)) (iter_rest (zip_second l.t1-iterator)) ++ (point l.t_now l.mu_now ∷ []))
