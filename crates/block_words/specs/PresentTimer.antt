-- `PresentTimerState` of logical as words. Written by tools/words.
use Rattle.block_words.specs.declared.present_timer.PresentTimerWords.{PresentTimerWords}
use Rattle.logical.specs.declared.present_timer.PresentTimerState.{PresentTimerState}
use Rattle.block_words.specs.Flags.{flag_word, word_flag}
use Rattle.block_words.specs.Seen.{seen_words, seen_of}

-- `PresentTimerState` as words
unfoldable pub present_timer_words : PresentTimerState → PresentTimerWords
present_timer_words s = record {
  threshold = s.threshold;
  entry_time = seen_words s.entry_time;
  prev_u = flag_word s.prev_u;
}

-- the `PresentTimerState` that words stand for
unfoldable pub present_timer_of : PresentTimerWords → PresentTimerState
present_timer_of w = record {
  threshold = w.threshold;
  entry_time = seen_of w.entry_time;
  prev_u = word_flag w.prev_u;
}
