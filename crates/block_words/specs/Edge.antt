-- `EdgeState` of logical as words. Written by tools/words.
use Rattle.block_words.specs.declared.edge.EdgeWords.{EdgeWords}
use Rattle.logical.specs.declared.edge.EdgeState.{EdgeState}
use Rattle.block_words.specs.Flags.{flag_word, word_flag}

-- `EdgeState` as words
unfoldable pub edge_words : EdgeState → EdgeWords
edge_words s = record {
  previous = flag_word s.previous;
}

-- the `EdgeState` that words stand for
unfoldable pub edge_of : EdgeWords → EdgeState
edge_of w = record {
  previous = word_flag w.previous;
}
