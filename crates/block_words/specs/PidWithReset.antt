-- `PidWithResetState` of reals as words. Written by tools/words.
use Rattle.block_words.specs.declared.pid_with_reset.PidWithResetWords.{PidWithResetWords}
use Rattle.reals.specs.declared.pid_with_reset.PidWithResetState.{PidWithResetState}
use Rattle.block_words.specs.Flags.{flag_word, word_flag}
use Rattle.block_words.specs.Seen.{seen_words, seen_of}

-- `PidWithResetState` as words
unfoldable pub pid_with_reset_words : PidWithResetState → PidWithResetWords
pid_with_reset_words s = record {
  integral = s.integral;
  prev_t = seen_words s.prev_t;
  previous_trigger = flag_word s.previous_trigger;
}

-- the `PidWithResetState` that words stand for
unfoldable pub pid_with_reset_of : PidWithResetWords → PidWithResetState
pid_with_reset_of w = record {
  integral = w.integral;
  prev_t = seen_of w.prev_t;
  previous_trigger = word_flag w.previous_trigger;
}
