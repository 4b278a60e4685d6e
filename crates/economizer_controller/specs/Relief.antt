-- The third pass: Economizers.Subsequences.Modulations.Reliefs, as `relief_modulation_trace` has it.
use Rattle.std.specs.Prelude.{Float}
use Rattle.reals.specs.Line.{buildings_line}
use Rattle.reals.specs.Order.{greater, lesser}
use Rattle.economizer_controller.specs.declared.types.DamperLimits.{DamperLimits}
use Rattle.economizer_controller.specs.declared.types.EnableLimits.{EnableLimits}
use Rattle.economizer_controller.specs.declared.types.ReliefModulation.{ReliefModulation}
use Rattle.economizer_controller.specs.Constants.{u_min, u_max, u_outdoor_damper_max, u_return_damper_min}

-- the outdoor damper's position before its upper limit: over the signals uMin .. uOutDamMax it rises from its minimum to its maximum
abbrev pub outdoor_position : Float → DamperLimits → EnableLimits → Float
outdoor_position signal limits enable =
    buildings_line u_min limits.outdoor_damper_min_limit u_outdoor_damper_max enable.outdoor_damper_max_limit signal

-- the return damper's before its lower limit: over uRetDamMin .. uMax it falls from its maximum to its minimum
abbrev pub return_position : Float → EnableLimits → Float
return_position signal enable = buildings_line u_return_damper_min enable.return_damper_max_limit u_max enable.return_damper_min_limit signal

-- both, limited
unfoldable pub relief_modulation : Float → DamperLimits → EnableLimits → ReliefModulation
relief_modulation signal limits enable = record {
  outdoor_damper_command = lesser (outdoor_position signal limits enable) enable.outdoor_damper_max_limit;
  return_damper_command = greater (return_position signal enable) enable.return_damper_min_limit;
}
