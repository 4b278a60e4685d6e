-- `TrueFalseHoldState` of logical as words. Written by tools/words.
use Rattle.block_words.specs.declared.true_false_hold.TrueFalseHoldWords.{TrueFalseHoldWords}
use Rattle.logical.specs.declared.true_false_hold.TrueFalseHoldState.{TrueFalseHoldState}
use Rattle.block_words.specs.Flags.{flag_word, word_flag}
use Rattle.block_words.specs.Seen.{seen_words, seen_of}

-- `TrueFalseHoldState` as words
unfoldable pub true_false_hold_words : TrueFalseHoldState → TrueFalseHoldWords
true_false_hold_words s = record {
  held = flag_word s.held;
  timer = s.timer;
  prev_t = seen_words s.prev_t;
  true_hold_duration = s.true_hold_duration;
  false_hold_duration = s.false_hold_duration;
}

-- the `TrueFalseHoldState` that words stand for
unfoldable pub true_false_hold_of : TrueFalseHoldWords → TrueFalseHoldState
true_false_hold_of w = record {
  held = word_flag w.held;
  timer = w.timer;
  prev_t = seen_of w.prev_t;
  true_hold_duration = w.true_hold_duration;
  false_hold_duration = w.false_hold_duration;
}
