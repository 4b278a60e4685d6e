-- What a relief row is refused for.
use Rattle.std.specs.Prelude.{Bool, not, ◌&&◌, List, ℤ}
use Rattle.std.specs.Float.Ieee.Scale.{finite}
use Rattle.refusals.specs.declared.Refusal.TheVariants.{AlarmOutOfRange, WindowFull}
use Rattle.refusals.specs.Refusals.{Verdict}
use Rattle.refusals.specs.Refusals.{verdict_or_refused, judge}
use Rattle.relief_fans.specs.Alarms.{alarms_fit}
use Rattle.relief_fan_group.specs.declared.types.ReliefRow.{ReliefRow}
use Rattle.relief_fan_group.specs.declared.types.ReliefBlocks.{ReliefBlocks}

-- no number of the row, its time included, is NaN or infinite
unfoldable pub numbers_finite : ReliefRow → Bool
numbers_finite row = finite row.time && finite row.pressure

-- after refusals 1, 2 and 3: 11, an alarm that a signed byte does not hold; then 4, a full window
unfoldable pub after_judged : Verdict → List ℤ → Bool → Verdict
after_judged judged alarm full = verdict_or_refused (verdict_or_refused judged (not (alarms_fit alarm)) AlarmOutOfRange) full WindowFull

-- refusals 1, 2 and 3: a number that is not finite, a time with its sign bit set, a time below that of the last accepted row; then 11 and 4. `full` is whether the
-- window is full for the row's time (`moving_average_is_full` of crate moving_average)
unfoldable pub relief_verdict : ReliefBlocks → ReliefRow → Bool → Verdict
relief_verdict blocks row full = after_judged (judge (numbers_finite row) row.time blocks.last) row.alarm full
