-- What an economizer row is refused for.
use Rattle.std.specs.Prelude.{Bool, ◌&&◌}
use Rattle.std.specs.Float.Ieee.Scale.{finite}
use Rattle.refusals.specs.Refusals.{Verdict}
use Rattle.refusals.specs.Refusals.{judge}
use Rattle.economizer_controller.specs.declared.types.EconomizerRow.{EconomizerRow}
use Rattle.economizer_controller.specs.declared.types.EconomizerState.{EconomizerState}

-- no number of the row, its time included, is NaN or infinite
unfoldable pub numbers_finite : EconomizerRow → Bool
numbers_finite row =
    finite row.time
    && finite row.outdoor_airflow_normalized
    && finite row.minimum_outdoor_airflow_setpoint_normalized
    && finite row.supply_temperature_signal
    && finite row.outdoor_air_temperature

-- refusals 1, 2 and 3: a number that is not finite, a time with its sign bit set, a time below that of the last accepted row
unfoldable pub economizer_verdict : EconomizerState → EconomizerRow → Verdict
economizer_verdict state row = judge (numbers_finite row) row.time state.last
