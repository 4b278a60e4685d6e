-- `TrueDelayState` of logical as words. Written by tools/words.
use Rattle.block_words.specs.declared.true_delay.TrueDelayWords.{TrueDelayWords}
use Rattle.logical.specs.declared.true_delay.TrueDelayState.{TrueDelayState}
use Rattle.block_words.specs.Flags.{flag_word, word_flag}
use Rattle.block_words.specs.Seen.{seen_words, seen_of}

-- `TrueDelayState` as words
unfoldable pub true_delay_words : TrueDelayState → TrueDelayWords
true_delay_words s = record {
  previous_time = seen_words s.previous_time;
  previous_input = flag_word s.previous_input;
  held_output = flag_word s.held_output;
  timer = s.timer;
}

-- the `TrueDelayState` that words stand for
unfoldable pub true_delay_of : TrueDelayWords → TrueDelayState
true_delay_of w = record {
  previous_time = seen_of w.previous_time;
  previous_input = word_flag w.previous_input;
  held_output = word_flag w.held_output;
  timer = w.timer;
}
