-- `HeldTimerState` of logical as words. Written by tools/words.
use Rattle.block_words.specs.declared.held_timer.HeldTimerWords.{HeldTimerWords}
use Rattle.logical.specs.declared.held_timer.HeldTimerState.{HeldTimerState}
use Rattle.block_words.specs.Flags.{flag_word, word_flag}
use Rattle.block_words.specs.Seen.{seen_words, seen_of}

-- `HeldTimerState` as words
unfoldable pub held_timer_words : HeldTimerState → HeldTimerWords
held_timer_words s = record {
  threshold = s.threshold;
  entry_time = seen_words s.entry_time;
  prev_u = flag_word s.prev_u;
  passed = flag_word s.passed;
}

-- the `HeldTimerState` that words stand for
unfoldable pub held_timer_of : HeldTimerWords → HeldTimerState
held_timer_of w = record {
  threshold = w.threshold;
  entry_time = seen_of w.entry_time;
  prev_u = word_flag w.prev_u;
  passed = word_flag w.passed;
}
