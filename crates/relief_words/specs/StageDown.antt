-- `StageDown` of relief_fan_group as words. Written by tools/words.
use Rattle.std.specs.Prelude.{replicate, map}
use Rattle.relief_fan_group.specs.declared.types.StageDown.{StageDown}
use Rattle.relief_words.specs.declared.stage_down.StageDownWords.{StageDownWords}
use Rattle.block_words.specs.Flags.{flag_word}
use Rattle.block_words.specs.TimerOutput.{timer_output_words, timer_output_zero}
use Rattle.reals.specs.Constants.{plus_zero}

-- `StageDown` as words
unfoldable pub stage_down_words : StageDown → StageDownWords
stage_down_words s = record {
  pro2 = s.pro2;
  down_distance = s.down_distance;
  xor = map flag_word s.xor;
  not5 = map flag_word s.not5;
  all_stopped_matches = flag_word s.all_stopped_matches;
  down_gate = flag_word s.down_gate;
  dow_tim = timer_output_words s.dow_tim;
  lat1_y = flag_word s.lat1_y;
}

-- all words 0
unfoldable pub stage_down_zero : StageDownWords
stage_down_zero = record {
  pro2 = replicate 4 plus_zero;
  down_distance = replicate 4 plus_zero;
  xor = replicate 4 0;
  not5 = replicate 4 0;
  all_stopped_matches = 0;
  down_gate = 0;
  dow_tim = timer_output_zero;
  lat1_y = 0;
}
