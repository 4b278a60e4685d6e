-- `ThresholdState` of reals as words. Written by tools/words.
use Rattle.block_words.specs.declared.threshold.ThresholdWords.{ThresholdWords}
use Rattle.reals.specs.declared.threshold.ThresholdState.{ThresholdState}
use Rattle.block_words.specs.Flags.{flag_word, word_flag}
use Rattle.block_words.specs.ThresholdMode.{threshold_mode_words, threshold_mode_of}

-- `ThresholdState` as words
unfoldable pub threshold_words : ThresholdState → ThresholdWords
threshold_words s = record {
  threshold = s.threshold;
  hysteresis = s.hysteresis;
  previous = flag_word s.previous;
  mode = threshold_mode_words s.mode;
}

-- the `ThresholdState` that words stand for
unfoldable pub threshold_of : ThresholdWords → ThresholdState
threshold_of w = record {
  threshold = w.threshold;
  hysteresis = w.hysteresis;
  previous = word_flag w.previous;
  mode = threshold_mode_of w.mode;
}
