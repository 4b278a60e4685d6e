-- The outdoor damper command never exceeds the enable pass's upper limit: for the third pass on its own, where a NaN may stand, and for every row. Assumes nothing.
use Rattle.std.specs.Prelude.{Ok, Err}
use Prim.Native.Nat.{ℕ}
use native.Mathlib.Omega.{arith}
use mathlib.Core.Path.{◌≡◌, refl}
use mathlib.Core.Bool.{Bool, true, false}
use lib.Dec.{T}
use lib.Ieee.{Float, nan, binary64, add, sub, mul, div, le, is_nan, round, of_bits, neg}
use lib.Ieee.Scale.{finite}
use Rattle.reals.specs.Constants.{plus_zero, half, one}
use Rattle.reals.specs.Limits.{clamp}
use Rattle.reals.specs.Line.{buildings_line}
use Rattle.reals.specs.Switch.{switch}
use Rattle.reals.proofs.Between.{lesser_at_most, lesser_nan, lesser_of_nan, clamp_finite, switch_number, mul_number, add_number}
use Rattle.refusals.specs.Refusals.{Verdict}
use Rattle.economizer_controller.specs.declared.types.DamperLimits.{DamperLimits}
use Rattle.economizer_controller.specs.declared.types.EnableSignals.{EnableSignals}
use Rattle.economizer_controller.specs.declared.types.EnableLimits.{EnableLimits}
use Rattle.economizer_controller.specs.declared.types.EconomizerRow.{EconomizerRow}
use Rattle.economizer_controller.specs.declared.types.EconomizerState.{EconomizerState}
use Rattle.economizer_controller.specs.declared.types.EconomizerCommands.{EconomizerCommands}
use Rattle.economizer_controller.specs.DamperLimits.{damper_limits}
use Rattle.economizer_controller.specs.Enable.{enable_limits}
use Rattle.economizer_controller.specs.Relief.{outdoor_position, relief_modulation}
use Rattle.economizer_controller.specs.Verdict.{economizer_verdict}
use Rattle.economizer_controller.specs.Step.{economizer_signals, economizer_commands, step_by, economizer_row}

-- ---- the third pass, whatever its signal and its limits are
module _ (signal : Float) (limits : DamperLimits) (enable : EnableLimits) where
  -- where the upper limit is a number, the command is at most it
  pub command_at_most : is_nan enable.outdoor_damper_max_limit ≡ false
      → T (le (relief_modulation signal limits enable).outdoor_damper_command enable.outdoor_damper_max_limit)
  unfolding relief_modulation
  command_at_most number = lesser_at_most (outdoor_position signal limits enable) enable.outdoor_damper_max_limit number

  -- where the position is a NaN, the command is the upper limit
  pub command_of_nan_position : is_nan (outdoor_position signal limits enable) ≡ true
      → (relief_modulation signal limits enable).outdoor_damper_command ≡ enable.outdoor_damper_max_limit
  unfolding relief_modulation
  command_of_nan_position e = lesser_nan (outdoor_position signal limits enable) enable.outdoor_damper_max_limit e

  -- where the upper limit is a NaN, the command is one too
  pub command_of_nan_limit : enable.outdoor_damper_max_limit ≡ nan → (relief_modulation signal limits enable).outdoor_damper_command ≡ nan
  unfolding relief_modulation buildings_line add sub
  command_of_nan_limit e = rw e (lesser_of_nan nan)

-- ---- in the sequence the upper limit is a number: the limits of the first pass are, for any loop signal, a NaN too
-- a line from (0, 0) to (0.5, f2), at any signal
line_number : (f2 signal : Float)
    → T (finite (div binary64 (sub binary64 f2 plus_zero) (sub binary64 half plus_zero)))
    → T (finite (sub binary64 f2 (mul binary64 (div binary64 (sub binary64 f2 plus_zero) (sub binary64 half plus_zero)) half)))
    → is_nan (buildings_line plus_zero plus_zero half f2 signal) ≡ false
unfolding buildings_line
line_number f2 signal slope intercept =
    let a = div binary64 (sub binary64 f2 plus_zero) (sub binary64 half plus_zero) in
    let b = sub binary64 f2 (mul binary64 a half) in
    add_number binary64 b (mul binary64 a (clamp signal plus_zero half)) intercept
    (mul_number binary64 a (clamp signal plus_zero half) slope
    (clamp_finite signal plus_zero half (unfold of_bits in tt) (unfold of_bits in tt) (unfold of_bits le in tt)))

min_limit_number : (signal : Float) (enabled : Bool) → is_nan (damper_limits signal enabled).outdoor_damper_min_limit ≡ false
unfolding damper_limits switch
min_limit_number signal true = line_number one signal (unfold of_bits div sub add mul neg round in tt) (unfold of_bits div sub add mul neg round in tt)
min_limit_number signal false = line_number plus_zero signal (unfold of_bits div sub add mul neg round in tt) (unfold of_bits div sub add mul neg round in tt)

max_limit_number : (signal : Float) (enabled : Bool) → is_nan (damper_limits signal enabled).outdoor_damper_max_limit ≡ false
unfolding damper_limits switch
max_limit_number signal true = unfold of_bits is_nan in refl
max_limit_number signal false = unfold of_bits is_nan in refl

upper_limit_number : (signals : EnableSignals) (signal : Float) (enabled : Bool) → is_nan (enable_limits signals (damper_limits signal enabled)).outdoor_damper_max_limit ≡ false
unfolding enable_limits
upper_limit_number signals signal enabled = switch_number _ _ _ (min_limit_number signal enabled) (max_limit_number signal enabled)

-- ---- every row, from every state: the command is a number, and at most the upper limit
module _ (state : EconomizerState) (row : EconomizerRow) where
  pub row_command_at_most :
      T (le (economizer_commands row (economizer_signals state row)).outdoor_damper_command (economizer_signals state row).enable_limits.outdoor_damper_max_limit)
  unfolding economizer_commands
  row_command_at_most =
      command_at_most row.supply_temperature_signal (economizer_signals state row).damper_limits (economizer_signals state row).enable_limits
      (unfold economizer_signals in upper_limit_number _ _ _)

  -- so it is of the commands that `economizer_row` answers
  pub outdoor_command_limited : (commands : EconomizerCommands) → (economizer_row state row).answer ≡ Ok commands
      → T (le commands.outdoor_damper_command (economizer_signals state row).enable_limits.outdoor_damper_max_limit)
  unfolding economizer_row step_by
  outdoor_command_limited commands e = go (economizer_verdict state row) e
    where
      go : (v : Verdict) → (step_by v state row).answer ≡ Ok commands
          → T (le commands.outdoor_damper_command (economizer_signals state row).enable_limits.outdoor_damper_max_limit)
      go (Ok tt) e = let same : economizer_commands row (economizer_signals state row) ≡ commands = cc in rw (← same) row_command_at_most
      go (Err r) e = absurd (let z : ◌≡◌ {A = ℕ} 0 1 = cc in omega arith)
