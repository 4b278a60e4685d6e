-- `HourTimerState` of logical as words. Written by tools/words.
use Rattle.block_words.specs.declared.hour_timer.HourTimerWords.{HourTimerWords}
use Rattle.logical.specs.declared.hour_timer.HourTimerState.{HourTimerState}
use Rattle.block_words.specs.Flags.{flag_word, word_flag}
use Rattle.block_words.specs.Seen.{seen_words, seen_of}

-- `HourTimerState` as words
unfoldable pub hour_timer_words : HourTimerState → HourTimerWords
hour_timer_words s = record {
  threshold = s.threshold;
  entry_time = seen_words s.entry_time;
  prev_u = flag_word s.prev_u;
  passed = flag_word s.passed;
  runs_on = flag_word s.runs_on;
}

-- the `HourTimerState` that words stand for
unfoldable pub hour_timer_of : HourTimerWords → HourTimerState
hour_timer_of w = record {
  threshold = w.threshold;
  entry_time = seen_of w.entry_time;
  prev_u = word_flag w.prev_u;
  passed = word_flag w.passed;
  runs_on = word_flag w.runs_on;
}
