-- The first pass: Buildings.Controls.OBC.ASHRAE.G36.AHUs.MultiZone.VAV.Economizers.Subsequences.Limits.Common, as `damper_limits_trace` has it.
-- Its loop is `pidWithReset` of `reals`, reset by the supply fan.
use Rattle.std.specs.Prelude.{Bool, not, ◌&&◌, Float, ℤ}
use Rattle.reals.specs.Line.{buildings_line}
use Rattle.reals.specs.Pid.{y_min, y_max}
use Rattle.reals.specs.Switch.{switch}
use Rattle.economizer_controller.specs.declared.types.DamperLimits.{DamperLimits}
use Rattle.economizer_controller.specs.Constants.{limits_return_damper_min, return_damper_physical_max, return_damper_physical_min, outdoor_damper_physical_max, outdoor_damper_physical_min, occupied}
use Rattle.economizer_controller.specs.Integers.{integers_equal}

-- yEnaMinOut: the supply fan is proven on, and the mode is occupied
unfoldable pub minimum_outdoor_air_loop_enabled : Bool → ℤ → Bool
minimum_outdoor_air_loop_enabled fan mode = fan && integers_equal mode occupied

-- Over the loop signals yMin .. uRetDam_min the minimum of the outdoor damper rises from shut to its maximum; over uRetDam_min .. yMax the maximum of the
-- return damper falls from open to its minimum. Where the loop is off, the outdoor damper's maximum is shut and the return damper's minimum open.
unfoldable pub damper_limits : Float → Bool → DamperLimits
damper_limits signal enabled =
    let outdoor_max = switch (not enabled) outdoor_damper_physical_min outdoor_damper_physical_max in
    let return_min = switch (not enabled) return_damper_physical_max return_damper_physical_min in
    record {
      outdoor_damper_min_limit = buildings_line y_min outdoor_damper_physical_min limits_return_damper_min outdoor_max signal;
      outdoor_damper_max_limit = outdoor_max;
      return_damper_min_limit = return_min;
      return_damper_max_limit = buildings_line limits_return_damper_min return_damper_physical_max y_max return_min signal;
      return_damper_physical_max_limit = return_damper_physical_max;
    }
