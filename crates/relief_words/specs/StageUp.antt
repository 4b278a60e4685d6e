-- `StageUp` of relief_fan_group as words. Written by tools/words.
use Rattle.std.specs.Prelude.{replicate, map}
use Rattle.relief_fan_group.specs.declared.types.StageUp.{StageUp}
use Rattle.relief_words.specs.declared.stage_up.StageUpWords.{StageUpWords}
use Rattle.block_words.specs.Flags.{flag_word}
use Rattle.block_words.specs.TimerOutput.{timer_output_words, timer_output_zero}
use Rattle.reals.specs.Constants.{plus_zero}

-- `StageUp` as words
unfoldable pub stage_up_words : StageUp → StageUpWords
stage_up_words s = record {
  all_fans_off = flag_word s.all_fans_off;
  pro1 = s.pro1;
  up_distance = s.up_distance;
  or2 = map flag_word s.or2;
  all_newly_started_proven = flag_word s.all_newly_started_proven;
  up_gate = flag_word s.up_gate;
  up_tim = timer_output_words s.up_tim;
  lat2_y = flag_word s.lat2_y;
}

-- all words 0
unfoldable pub stage_up_zero : StageUpWords
stage_up_zero = record {
  all_fans_off = 0;
  pro1 = replicate 4 plus_zero;
  up_distance = replicate 4 plus_zero;
  or2 = replicate 4 0;
  all_newly_started_proven = 0;
  up_gate = 0;
  up_tim = timer_output_zero;
  lat2_y = 0;
}
