-- `HysteresisState` of reals as words. Written by tools/words.
use Rattle.block_words.specs.declared.hysteresis.HysteresisWords.{HysteresisWords}
use Rattle.reals.specs.declared.hysteresis.HysteresisState.{HysteresisState}
use Rattle.block_words.specs.Flags.{flag_word, word_flag}

-- `HysteresisState` as words
unfoldable pub hysteresis_words : HysteresisState → HysteresisWords
hysteresis_words s = record {
  previous = flag_word s.previous;
}

-- the `HysteresisState` that words stand for
unfoldable pub hysteresis_of : HysteresisWords → HysteresisState
hysteresis_of w = record {
  previous = word_flag w.previous;
}
