-- `ReliefRow` of relief_fan_group as words. Written by tools/words.
use Rattle.std.specs.Prelude.{map}
use Rattle.relief_fan_group.specs.declared.types.ReliefRow.{ReliefRow}
use Rattle.relief_words.specs.declared.relief_row.ReliefRowWords.{ReliefRowWords}
use Rattle.block_words.specs.Flags.{word_flag}

-- the `ReliefRow` that words stand for
unfoldable pub relief_row_of : ReliefRowWords → ReliefRow
relief_row_of w = record {
  time = w.time;
  supply = map word_flag w.supply;
  pressure = w.pressure;
  alarm = w.alarm;
  proof = map word_flag w.proof;
}
