-- `EconomizerSignals` of economizer_controller as words. Written by tools/words.
use Rattle.econ_words.specs.declared.economizer_signals.EconomizerSignalsWords.{EconomizerSignalsWords}
use Rattle.economizer_controller.specs.declared.types.EconomizerSignals.{EconomizerSignals}
use Rattle.block_words.specs.Flags.{flag_word}
use Rattle.econ_words.specs.DamperLimits.{damper_limits_words, damper_limits_zero}
use Rattle.econ_words.specs.EnableLimits.{enable_limits_words, enable_limits_zero}
use Rattle.econ_words.specs.EnableSignals.{enable_signals_words, enable_signals_zero}
use Rattle.reals.specs.Constants.{plus_zero}

-- `EconomizerSignals` as words
unfoldable pub economizer_signals_words : EconomizerSignals → EconomizerSignalsWords
economizer_signals_words s = record {
  loop_signal = s.loop_signal;
  minimum_outdoor_air_loop_enabled = flag_word s.minimum_outdoor_air_loop_enabled;
  damper_limits = damper_limits_words s.damper_limits;
  enable = enable_signals_words s.enable;
  enable_limits = enable_limits_words s.enable_limits;
}

-- all words 0
unfoldable pub economizer_signals_zero : EconomizerSignalsWords
economizer_signals_zero = record {
  loop_signal = plus_zero;
  minimum_outdoor_air_loop_enabled = 0;
  damper_limits = damper_limits_zero;
  enable = enable_signals_zero;
  enable_limits = enable_limits_zero;
}
