-- The integral of the input at any time, linear between the points: `mu_at` of relief_fan_group.rs, CDL's delay(mu, delta).
use Rattle.std.specs.Prelude.{cond, List, [], ◌∷◌, ◌++◌, Float}
use Rattle.std.specs.Float.{binary64}
use Rattle.std.specs.Float.Ieee.{add, sub, mul, div, le, eq}
use Rattle.reals.specs.Constants.{plus_zero}
use Rattle.moving_average.specs.Window.{Point}

-- on the line from p to q; where the two are at one time, q's integral
unfoldable pub on_line : Float → Point → Point → Float
on_line t p q =
    let den = sub binary64 q.time p.time in
    cond (eq den plus_zero) q.integral
    (add binary64 p.integral (mul binary64 (sub binary64 q.integral p.integral) (div binary64 (sub binary64 t p.time) den)))

-- after p: on the line that ends at the first later point that is not before t, or, where there is none, the last integral
unfoldable pub integral_after : Float → Point → List Point → Float
integral_after t p [] = p.integral
integral_after t p (q ∷ qs) = cond (le t q.time) (on_line t p q) (integral_after t q qs)

-- at t, through the points of the window and the present one: at or before the first point that point's integral; with no point the present one
unfoldable pub integral_at : Float → List Point → Point → Float
integral_at t [] now = now.integral
integral_at t (p ∷ ps) now = cond (le t p.time) p.integral (integral_after t p (ps ++ (now ∷ [])))
