-- `FreezeSignals` of freeze_protection as words. Written by tools/words.
use Rattle.freeze_protection.specs.declared.types.FreezeSignals.{FreezeSignals}
use Rattle.freeze_words.specs.declared.freeze_signals.FreezeSignalsWords.{FreezeSignalsWords}
use Rattle.block_words.specs.Flags.{flag_word}
use Rattle.block_words.specs.TimerOutput.{timer_output_words, timer_output_zero}
use Rattle.freeze_words.specs.FreezeCalls.{freeze_calls_words, freeze_calls_zero}
use Rattle.reals.specs.Constants.{plus_zero}

-- `FreezeSignals` as words
unfoldable pub freeze_signals_words : FreezeSignals → FreezeSignalsWords
freeze_signals_words s = record {
  calls = freeze_calls_words s.calls;
  or8_y = flag_word s.or8_y;
  lat1_y = flag_word s.lat1_y;
  tim5 = timer_output_words s.tim5;
  end_sta_two_y = flag_word s.end_sta_two_y;
  lat2_y = flag_word s.lat2_y;
  or2_y = flag_word s.or2_y;
  lat_y = flag_word s.lat_y;
  stage = s.stage;
  stage_1_heat = s.stage_1_heat;
  stage_3_measurement = s.stage_3_measurement;
  stage_3_heat = s.stage_3_heat;
}

-- all words 0
unfoldable pub freeze_signals_zero : FreezeSignalsWords
freeze_signals_zero = record {
  calls = freeze_calls_zero;
  or8_y = 0;
  lat1_y = 0;
  tim5 = timer_output_zero;
  end_sta_two_y = 0;
  lat2_y = 0;
  or2_y = 0;
  lat_y = 0;
  stage = 0;
  stage_1_heat = plus_zero;
  stage_3_measurement = plus_zero;
  stage_3_heat = plus_zero;
}
