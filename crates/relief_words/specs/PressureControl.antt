-- `PressureControl` of relief_fan_group as words. Written by tools/words.
use Rattle.std.specs.Prelude.{replicate}
use Rattle.relief_fan_group.specs.declared.types.PressureControl.{PressureControl}
use Rattle.relief_words.specs.declared.pressure_control.PressureControlWords.{PressureControlWords}
use Rattle.block_words.specs.Flags.{flag_word}
use Rattle.reals.specs.Constants.{plus_zero}

-- `PressureControl` as words
unfoldable pub pressure_control_words : PressureControl → PressureControlWords
pressure_control_words s = record {
  average = s.average;
  controller = s.controller;
  ena_rel_group = flag_word s.ena_rel_group;
  gated_controller = s.gated_controller;
  ena_rel = s.ena_rel;
  gai = s.gai;
  any_enabled = flag_word s.any_enabled;
}

-- all words 0
unfoldable pub pressure_control_zero : PressureControlWords
pressure_control_zero = record {
  average = plus_zero;
  controller = plus_zero;
  ena_rel_group = 0;
  gated_controller = plus_zero;
  ena_rel = replicate 4 plus_zero;
  gai = replicate 4 plus_zero;
  any_enabled = 0;
}
