-- `EconomizerState` of economizer_controller as words. Written by tools/words.
use Rattle.econ_words.specs.declared.economizer.EconomizerWords.{EconomizerWords}
use Rattle.economizer_controller.specs.declared.types.EconomizerState.{EconomizerState}
use Rattle.block_words.specs.PidWithReset.{pid_with_reset_words, pid_with_reset_of}
use Rattle.block_words.specs.Seen.{seen_words, seen_of}
use Rattle.econ_words.specs.Enable.{enable_words, enable_of}

-- `EconomizerState` as words
unfoldable pub economizer_words : EconomizerState → EconomizerWords
economizer_words s = record {
  last = seen_words s.last;
  minimum_outdoor_air_loop = pid_with_reset_words s.minimum_outdoor_air_loop;
  enable = enable_words s.enable;
}

-- the `EconomizerState` that words stand for
unfoldable pub economizer_of : EconomizerWords → EconomizerState
economizer_of w = record {
  last = seen_of w.last;
  minimum_outdoor_air_loop = pid_with_reset_of w.minimum_outdoor_air_loop;
  enable = enable_of w.enable;
}
