-- The alarm guard, for every fan and every row: an unproven fan at alarm 2 has damper 0, and no other alarm is touched.
-- Assumes nothing.
use Prim.Native.Nat.{ℕ}
use mathlib.Core.Path.{◌≡◌, refl}
use mathlib.Core.Bool.{Bool, true, false}
use mathlib.Core.List.{List}
use lib.IntN.{ℤ, pos}
use lib.Ieee.{binary64, mul, of_bits}
use Rattle.reals.specs.Constants.{plus_zero}
use Rattle.reals.specs.Four.{flag}
use Rattle.reals.specs.Switch.{bool_to_real}
use Rattle.relief_fans.specs.Commands.{level, is_level2, alarm_off_guard, damper_at}

-- the guard lets every alarm but 2 through
pub other_alarm : (z : ℤ) (proof : Bool) → is_level2 z ≡ false → alarm_off_guard z proof ≡ true
unfolding alarm_off_guard
other_alarm z proof e = rw e refl

pub level_3_is_another : is_level2 (pos 3) ≡ false
unfolding is_level2
level_3_is_another = refl

module _ (opened : List Bool) (alarm : List ℤ) (proof : List Bool) (i : ℕ) where
  -- an unproven fan at alarm 2 has damper 0, whether it is commanded open or not
  pub unproven_at_2_is_shut : level alarm i ≡ pos 2 → flag proof i ≡ false → damper_at opened alarm proof i ≡ plus_zero
  unfolding alarm_off_guard is_level2 bool_to_real mul of_bits
  unproven_at_2_is_shut a p = rw (a, p) (go (flag opened i))
    where
      go : (b : Bool) → mul binary64 (bool_to_real b) (bool_to_real false) ≡ plus_zero
      go true = refl
      go false = refl

  -- where the guard lets through, the damper is as commanded
  pub guarded_as_commanded : alarm_off_guard (level alarm i) (flag proof i) ≡ true → damper_at opened alarm proof i ≡ bool_to_real (flag opened i)
  unfolding bool_to_real mul of_bits
  guarded_as_commanded g = rw g (go (flag opened i))
    where
      go : (b : Bool) → mul binary64 (bool_to_real b) (bool_to_real true) ≡ bool_to_real b
      go true = refl
      go false = refl
