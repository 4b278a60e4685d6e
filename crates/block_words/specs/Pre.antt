-- `PreState` of logical as words. Written by tools/words.
use Rattle.block_words.specs.declared.pre.PreWords.{PreWords}
use Rattle.logical.specs.declared.pre.PreState.{PreState}
use Rattle.block_words.specs.Flags.{flag_word, word_flag}

-- `PreState` as words
unfoldable pub pre_words : PreState → PreWords
pre_words s = record {
  previous = flag_word s.previous;
}

-- the `PreState` that words stand for
unfoldable pub pre_of : PreWords → PreState
pre_of w = record {
  previous = word_flag w.previous;
}
