-- What a joined row is refused for (change request 6).
use Rattle.std.specs.Prelude.{Bool, not, ◌&&◌, ◌||◌, Float, Option}
use Rattle.std.specs.Float.Ieee.Scale.{finite}
use Rattle.reals.specs.Seen.{seen_above}
use Rattle.refusals.specs.declared.Refusal.TheVariants.{NotFinite}
use Rattle.refusals.specs.Refusals.{Verdict, judge_by, verdict_or_refused}
use Rattle.economizer_controller.specs.declared.types.EconomizerCommands.{EconomizerCommands}
use Rattle.relief_fan_group.specs.Verdict.{after_judged}
use Rattle.rooftop.specs.declared.types.RooftopRow.{RooftopRow}

-- no number of the row, its time included, is NaN or infinite
unfoldable pub numbers_finite : RooftopRow → Bool
numbers_finite row =
    finite row.time
    && finite row.outdoor_airflow_normalized
    && finite row.minimum_outdoor_airflow_setpoint_normalized
    && finite row.supply_temperature_signal
    && finite row.outdoor_air_temperature
    && finite row.heating_coil
    && finite row.minimum_outdoor_damper
    && finite row.supply_air_temperature
    && finite row.supply_fan_speed
    && finite row.cooling_coil
    && finite row.mixed_air_temperature
    && finite row.pressure

-- the three numbers that the economizer hands on are finite; proofs/OwnEntries.antt: they always are
unfoldable pub handed_on_finite : EconomizerCommands → Bool
handed_on_finite economizer =
    finite economizer.outdoor_damper_min_limit && finite economizer.outdoor_damper_command && finite economizer.return_damper_command

-- some sequence has accepted a later time
unfoldable pub falls : (economizer freeze relief : Option Float) → Float → Bool
falls economizer freeze relief time = seen_above economizer time || seen_above freeze time || seen_above relief time

-- refusals 1, 2 and 3 over the joined row, then 11 and 4, which are the relief fan group's; and then 1 once more, by the numbers handed on.
-- `full` is whether the relief window is full for the row's time
unfoldable pub rooftop_verdict : Bool → RooftopRow → Bool → EconomizerCommands → Verdict
rooftop_verdict falling row full economizer =
    verdict_or_refused (after_judged (judge_by (numbers_finite row) row.time falling) row.alarm full) (not (handed_on_finite economizer)) NotFinite
