-- `EnableState` of economizer_controller as words. Written by tools/words.
use Rattle.econ_words.specs.declared.enable.EnableWords.{EnableWords}
use Rattle.economizer_controller.specs.declared.enable.EnableState.{EnableState}
use Rattle.block_words.specs.Hysteresis.{hysteresis_words, hysteresis_of}
use Rattle.block_words.specs.TrueDelay.{true_delay_words, true_delay_of}
use Rattle.block_words.specs.TrueFalseHold.{true_false_hold_words, true_false_hold_of}

-- `EnableState` as words
unfoldable pub enable_words : EnableState → EnableWords
enable_words s = record {
  hysteresis = hysteresis_words s.hysteresis;
  hold = true_false_hold_words s.hold;
  outdoor_delay = true_delay_words s.outdoor_delay;
  return_delay = true_delay_words s.return_delay;
}

-- the `EnableState` that words stand for
unfoldable pub enable_of : EnableWords → EnableState
enable_of w = record {
  hysteresis = hysteresis_of w.hysteresis;
  hold = true_false_hold_of w.hold;
  outdoor_delay = true_delay_of w.outdoor_delay;
  return_delay = true_delay_of w.return_delay;
}
