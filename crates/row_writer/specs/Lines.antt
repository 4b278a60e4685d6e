-- What a row leaves of the arrays that are lent for the relief window.
use Rattle.std.specs.Prelude.{◌≡◌, List, Bool, false, Float, length}

-- both whole, and as they were where the kind has no window
pub record WindowLeft (has_window : Bool) (times integrals after_times after_integrals : List Float) : Type 0 where
  pub times_long : length after_times ≡ 512
  pub integrals_long : length after_integrals ≡ 512
  pub kept : has_window ≡ false → (after_times ≡ times) × (after_integrals ≡ integrals)
