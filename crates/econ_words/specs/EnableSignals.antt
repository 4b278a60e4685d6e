-- `EnableSignals` of economizer_controller as words. Written by tools/words.
use Rattle.econ_words.specs.declared.enable_signals.EnableSignalsWords.{EnableSignalsWords}
use Rattle.economizer_controller.specs.declared.types.EnableSignals.{EnableSignals}
use Rattle.block_words.specs.Flags.{flag_word}
use Rattle.reals.specs.Constants.{plus_zero}

-- `EnableSignals` as words
unfoldable pub enable_signals_words : EnableSignals → EnableSignalsWords
enable_signals_words s = record {
  dry_bulb_delta = s.dry_bulb_delta;
  outdoor_air_condition = flag_word s.outdoor_air_condition;
  held_condition = flag_word s.held_condition;
  enabled = flag_word s.enabled;
  outdoor_delay_done = flag_word s.outdoor_delay_done;
  return_delay_done = flag_word s.return_delay_done;
}

-- all words 0
unfoldable pub enable_signals_zero : EnableSignalsWords
enable_signals_zero = record {
  dry_bulb_delta = plus_zero;
  outdoor_air_condition = 0;
  held_condition = 0;
  enabled = 0;
  outdoor_delay_done = 0;
  return_delay_done = 0;
}
