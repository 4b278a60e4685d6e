-- The three numbers of a row's commands are finite, from every state and for every row, with a NaN or an infinity in them too. Assumes nothing.
use native.Mathlib.Omega.{arith}
use mathlib.Core.Bool.{Bool, not}
use lib.Dec.{T}
use lib.Ieee.{Float, binary64, add, sub, neg, round, le, of_bits}
use lib.Ieee.Scale.{finite}
use Rattle.reals.specs.Pid.{y_min, y_max}
use Rattle.reals.specs.Switch.{switch}
use Rattle.reals.proofs.Bounded.{Within, AtLeastQuarter, within_finite, within_wider, switch_within, lesser_within, greater_within, line_within}
use Rattle.economizer_controller.specs.declared.types.DamperLimits.{DamperLimits}
use Rattle.economizer_controller.specs.declared.types.EnableSignals.{EnableSignals}
use Rattle.economizer_controller.specs.declared.types.EnableLimits.{EnableLimits}
use Rattle.economizer_controller.specs.declared.types.EconomizerRow.{EconomizerRow}
use Rattle.economizer_controller.specs.declared.types.EconomizerState.{EconomizerState}
use Rattle.economizer_controller.specs.declared.types.EconomizerCommands.{EconomizerCommands}
use Rattle.economizer_controller.specs.Constants.{limits_return_damper_min, return_damper_physical_max, return_damper_physical_min, outdoor_damper_physical_max, outdoor_damper_physical_min, u_min, u_max, u_outdoor_damper_max, u_return_damper_min}
use Rattle.economizer_controller.specs.DamperLimits.{damper_limits}
use Rattle.economizer_controller.specs.Enable.{enable_limits}
use Rattle.economizer_controller.specs.Relief.{outdoor_position, return_position, relief_modulation}
use Rattle.economizer_controller.specs.Step.{economizer_signals, economizer_commands}

-- ---- the constants: each is within 1, and the ends of each line are in order and at least a quarter apart
shut : Within 1 outdoor_damper_physical_min
unfolding of_bits
shut = omega arith

open_full : Within 1 outdoor_damper_physical_max
unfolding of_bits
open_full = omega arith

middle : Within 1 limits_return_damper_min
unfolding of_bits
middle = omega arith

signal_lowest : Within 1 u_min
unfolding of_bits
signal_lowest = omega arith

signal_highest : Within 1 u_max
unfolding of_bits
signal_highest = omega arith

lower_half : AtLeastQuarter (sub binary64 limits_return_damper_min y_min)
unfolding of_bits sub neg add round
lower_half = omega arith

upper_half : AtLeastQuarter (sub binary64 y_max limits_return_damper_min)
unfolding of_bits sub neg add round
upper_half = omega arith

below_zero : AtLeastQuarter (sub binary64 u_outdoor_damper_max u_min)
unfolding of_bits sub neg add round
below_zero = omega arith

above_zero : AtLeastQuarter (sub binary64 u_max u_return_damper_min)
unfolding of_bits sub neg add round
above_zero = omega arith

-- ---- the first pass: whatever the loop signal is, both lines are within 17, and so are the other limits
module _ (signal : Float) (enabled : Bool) where
  outdoor_max_within : Within 1 (switch (not enabled) outdoor_damper_physical_min outdoor_damper_physical_max)
  outdoor_max_within = switch_within 1 (not enabled) outdoor_damper_physical_min outdoor_damper_physical_max shut open_full

  return_min_within : Within 1 (switch (not enabled) return_damper_physical_max return_damper_physical_min)
  return_min_within = switch_within 1 (not enabled) return_damper_physical_max return_damper_physical_min open_full shut

  wider : (x : Float) → Within 1 x → Within 17 x
  wider x h = within_wider 1 17 x (omega arith) h

  min_limit_within : Within 17 (damper_limits signal enabled).outdoor_damper_min_limit
  unfolding damper_limits
  min_limit_within =
      line_within 1 y_min outdoor_damper_physical_min limits_return_damper_min (switch (not enabled) outdoor_damper_physical_min outdoor_damper_physical_max) signal
      (omega arith) shut shut middle outdoor_max_within (unfold of_bits le in tt) lower_half

  max_limit_within : Within 17 (damper_limits signal enabled).outdoor_damper_max_limit
  unfolding damper_limits
  max_limit_within = wider _ outdoor_max_within

  return_min_limit_within : Within 17 (damper_limits signal enabled).return_damper_min_limit
  unfolding damper_limits
  return_min_limit_within = wider _ return_min_within

  return_max_limit_within : Within 17 (damper_limits signal enabled).return_damper_max_limit
  unfolding damper_limits
  return_max_limit_within =
      line_within 1 limits_return_damper_min return_damper_physical_max y_max (switch (not enabled) return_damper_physical_max return_damper_physical_min) signal
      (omega arith) middle open_full open_full return_min_within (unfold of_bits le in tt) upper_half

  physical_max_limit_within : Within 17 (damper_limits signal enabled).return_damper_physical_max_limit
  unfolding damper_limits
  physical_max_limit_within = wider _ open_full

  -- ---- the second pass chooses among them
  module _ (signals : EnableSignals) where
    enable_max_within : Within 17 (enable_limits signals (damper_limits signal enabled)).outdoor_damper_max_limit
    unfolding enable_limits
    enable_max_within = switch_within 17 _ _ _ min_limit_within max_limit_within

    enable_return_min_within : Within 17 (enable_limits signals (damper_limits signal enabled)).return_damper_min_limit
    unfolding enable_limits
    enable_return_min_within =
        switch_within 17 _ _ _ physical_max_limit_within (switch_within 17 _ _ _ return_max_limit_within return_min_limit_within)

    enable_return_max_within : Within 17 (enable_limits signals (damper_limits signal enabled)).return_damper_max_limit
    unfolding enable_limits
    enable_return_max_within = switch_within 17 _ _ _ physical_max_limit_within return_max_limit_within

-- ---- the third pass: whatever the supply temperature signal is, limits within 17 give commands within 289
module _ (signal : Float) (limits : DamperLimits) (enable : EnableLimits) where
  outdoor_within : Within 17 limits.outdoor_damper_min_limit → Within 17 enable.outdoor_damper_max_limit
      → Within 289 (relief_modulation signal limits enable).outdoor_damper_command
  unfolding relief_modulation
  outdoor_within low high =
      lesser_within 289 (outdoor_position signal limits enable) enable.outdoor_damper_max_limit
      (line_within 17 u_min limits.outdoor_damper_min_limit u_outdoor_damper_max enable.outdoor_damper_max_limit signal
      (omega arith) signal_lowest low shut high (unfold of_bits le in tt) below_zero)
      (within_wider 17 289 enable.outdoor_damper_max_limit (omega arith) high)

  return_within : Within 17 enable.return_damper_min_limit → Within 17 enable.return_damper_max_limit
      → Within 289 (relief_modulation signal limits enable).return_damper_command
  unfolding relief_modulation
  return_within low high =
      greater_within 289 (return_position signal enable) enable.return_damper_min_limit
      (line_within 17 u_return_damper_min enable.return_damper_max_limit u_max enable.return_damper_min_limit signal
      (omega arith) shut high signal_highest low (unfold of_bits le in tt) above_zero)
      (within_wider 17 289 enable.return_damper_min_limit (omega arith) low)

-- ---- every row, from every state: the commands that it would have, whether it is accepted or refused
module _ (state : EconomizerState) (row : EconomizerRow) where
  abbrev commands : EconomizerCommands
  commands = economizer_commands row (economizer_signals state row)

  -- the outdoor damper's minimum is a finite number
  pub min_limit_finite : T (finite commands.outdoor_damper_min_limit)
  unfolding economizer_commands economizer_signals
  min_limit_finite = within_finite 17 _ (min_limit_within _ _)

  -- the outdoor damper's command is a finite number
  pub outdoor_command_finite : T (finite commands.outdoor_damper_command)
  unfolding economizer_commands economizer_signals
  outdoor_command_finite = within_finite 289 _ (outdoor_within row.supply_temperature_signal _ _ (min_limit_within _ _) (enable_max_within _ _ _))

  -- the return damper's command is a finite number
  pub return_command_finite : T (finite commands.return_damper_command)
  unfolding economizer_commands economizer_signals
  return_command_finite = within_finite 289 _ (return_within row.supply_temperature_signal _ _ (enable_return_min_within _ _ _) (enable_return_max_within _ _ _))

  -- the three numbers of a row's commands are finite, whatever the state and the row hold
  pub commands_finite : T (finite commands.outdoor_damper_min_limit) × T (finite commands.outdoor_damper_command) × T (finite commands.return_damper_command)
  commands_finite = (min_limit_finite, outdoor_command_finite, return_command_finite)
