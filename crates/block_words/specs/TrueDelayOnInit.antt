-- `TrueDelayOnInitState` of logical as words. Written by tools/words.
use Rattle.block_words.specs.declared.true_delay_on_init.TrueDelayOnInitWords.{TrueDelayOnInitWords}
use Rattle.logical.specs.declared.true_delay_on_init.TrueDelayOnInitState.{TrueDelayOnInitState}
use Rattle.block_words.specs.Flags.{flag_word, word_flag}
use Rattle.block_words.specs.Seen.{seen_words, seen_of}

-- `TrueDelayOnInitState` as words
unfoldable pub true_delay_on_init_words : TrueDelayOnInitState → TrueDelayOnInitWords
true_delay_on_init_words s = record {
  delay_time = s.delay_time;
  entry_time = seen_words s.entry_time;
  previous_u = flag_word s.previous_u;
}

-- the `TrueDelayOnInitState` that words stand for
unfoldable pub true_delay_on_init_of : TrueDelayOnInitWords → TrueDelayOnInitState
true_delay_on_init_of w = record {
  delay_time = w.delay_time;
  entry_time = seen_of w.entry_time;
  previous_u = word_flag w.previous_u;
}
