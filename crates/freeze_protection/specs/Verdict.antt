-- What a freeze row is refused for.
use Rattle.std.specs.Prelude.{Bool, ◌&&◌}
use Rattle.std.specs.Float.Ieee.Scale.{finite}
use Rattle.refusals.specs.Refusals.{Verdict}
use Rattle.refusals.specs.Refusals.{judge}
use Rattle.freeze_protection.specs.declared.types.FreezeRow.{FreezeRow}
use Rattle.freeze_protection.specs.declared.types.FreezeState.{FreezeState}

-- no number of the row, its time included, is NaN or infinite
unfoldable pub numbers_finite : FreezeRow → Bool
numbers_finite row =
    finite row.time
    && finite row.outdoor_damper_min_position
    && finite row.outdoor_damper
    && finite row.heating_coil
    && finite row.minimum_outdoor_damper
    && finite row.return_damper
    && finite row.supply_air_temperature
    && finite row.supply_fan_speed
    && finite row.cooling_coil
    && finite row.mixed_air_temperature

-- refusals 1, 2 and 3: a number that is not finite, a time with its sign bit set, a time below that of the last accepted row
unfoldable pub freeze_verdict : FreezeState → FreezeRow → Verdict
freeze_verdict state row = judge (numbers_finite row) row.time state.last
