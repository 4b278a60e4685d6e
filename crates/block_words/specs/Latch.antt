-- `LatchState` of logical as words. Written by tools/words.
use Rattle.block_words.specs.declared.latch.LatchWords.{LatchWords}
use Rattle.logical.specs.declared.latch.LatchState.{LatchState}
use Rattle.block_words.specs.Flags.{flag_word, word_flag}

-- `LatchState` as words
unfoldable pub latch_words : LatchState → LatchWords
latch_words s = record {
  held = flag_word s.held;
  prev_u = flag_word s.prev_u;
}

-- the `LatchState` that words stand for
unfoldable pub latch_of : LatchWords → LatchState
latch_of w = record {
  held = word_flag w.held;
  prev_u = word_flag w.prev_u;
}
