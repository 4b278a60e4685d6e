-- `TimerOutput` of logical as words. Written by tools/words.
use Rattle.block_words.specs.declared.timer_output.TimerOutputWords.{TimerOutputWords}
use Rattle.logical.specs.declared.timer.TimerOutput.{TimerOutput}
use Rattle.block_words.specs.Flags.{flag_word}
use Rattle.reals.specs.Constants.{plus_zero}

-- `TimerOutput` as words
unfoldable pub timer_output_words : TimerOutput → TimerOutputWords
timer_output_words s = record {
  passed = flag_word s.passed;
  elapsed = s.elapsed;
}

-- all words 0
unfoldable pub timer_output_zero : TimerOutputWords
timer_output_zero = record {
  passed = 0;
  elapsed = plus_zero;
}
