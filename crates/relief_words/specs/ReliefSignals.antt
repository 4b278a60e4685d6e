-- `ReliefSignals` of relief_fan_group as words. Written by tools/words.
use Rattle.relief_fan_group.specs.declared.types.ReliefSignals.{ReliefSignals}
use Rattle.relief_words.specs.declared.relief_signals.ReliefSignalsWords.{ReliefSignalsWords}
use Rattle.relief_words.specs.DamperEnable.{damper_enable_words, damper_enable_zero}
use Rattle.relief_words.specs.PressureControl.{pressure_control_words, pressure_control_zero}
use Rattle.relief_words.specs.StageDown.{stage_down_words, stage_down_zero}
use Rattle.relief_words.specs.StageUp.{stage_up_words, stage_up_zero}

-- `ReliefSignals` as words
unfoldable pub relief_signals_words : ReliefSignals → ReliefSignalsWords
relief_signals_words s = record {
  control = pressure_control_words s.control;
  dampers = damper_enable_words s.dampers;
  up = stage_up_words s.up;
  down = stage_down_words s.down;
}

-- all words 0
unfoldable pub relief_signals_zero : ReliefSignalsWords
relief_signals_zero = record {
  control = pressure_control_zero;
  dampers = damper_enable_zero;
  up = stage_up_zero;
  down = stage_down_zero;
}
