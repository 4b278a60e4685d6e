-- What a state remembers of the alarms, and the same read off the past.
use Rattle.std.specs.Prelude.{ℕ, cond, List, map, ltb, ℤ, pos, get_or, Option, None, Some}
use Rattle.reals.specs.Four.{each4}
use Rattle.past.specs.Whole.{accepted}
use Rattle.relief_fans.specs.Commands.{level}
use Rattle.relief_fan_group.specs.declared.types.ReliefRow.{ReliefRow}
use Rattle.relief_fan_group.specs.declared.types.ReliefBlocks.{ReliefBlocks}
use Rattle.relief_fan_group.specs.Reading.{Past, verdict_of}

-- of four alarms, that of the fan with this index; above 3 there is no fan
abbrev pub alarm_of : List ℤ → ℕ → Option ℤ
alarm_of alarms fan = cond (ltb 3 fan) None (Some (level alarms fan))

-- what a state remembers of a fan
unfoldable pub relief_alarm : ReliefBlocks → ℕ → Option ℤ
relief_alarm blocks fan = alarm_of blocks.alarms fan

-- ---- the same, read off the past
abbrev pub alarms_of_row : ReliefRow → List ℤ
alarms_of_row row = row.alarm

-- the alarms of the row 0 rows ago, the newest of a past, as it has them; 0 where there is none
unfoldable pub last_alarms : Past → List ℤ
last_alarms h = get_or (map alarms_of_row h) 0 (each4 (λ i. pos 0))

-- of all rows up to here, refused ones too, the newest first: the alarm of a fan at the last accepted one
unfoldable pub alarm_read : List ReliefRow → ℕ → Option ℤ
alarm_read l fan = alarm_of (last_alarms (accepted verdict_of l)) fan
