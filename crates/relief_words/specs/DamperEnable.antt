-- `DamperEnable` of relief_fan_group as words. Written by tools/words.
use Rattle.std.specs.Prelude.{replicate, map}
use Rattle.relief_fan_group.specs.declared.types.DamperEnable.{DamperEnable}
use Rattle.relief_words.specs.declared.damper_enable.DamperEnableWords.{DamperEnableWords}
use Rattle.block_words.specs.Flags.{flag_word}
use Rattle.block_words.specs.TimerOutput.{timer_output_words, timer_output_zero}

-- `DamperEnable` as words
unfoldable pub damper_enable_words : DamperEnable → DamperEnableWords
damper_enable_words s = record {
  damper_open = flag_word s.damper_open;
  damper_close_request = flag_word s.damper_close_request;
  tim = timer_output_words s.tim;
  ena_dam = map flag_word s.ena_dam;
}

-- all words 0
unfoldable pub damper_enable_zero : DamperEnableWords
damper_enable_zero = record {
  damper_open = 0;
  damper_close_request = 0;
  tim = timer_output_zero;
  ena_dam = replicate 4 0;
}
