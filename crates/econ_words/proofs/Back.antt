-- The words of a value stand for the value. Written by tools/words.
use mathlib.Core.Path.{◌≡◌}
use Rattle.economizer_controller.specs.declared.enable.EnableState.{EnableState}
use Rattle.economizer_controller.specs.declared.types.EconomizerState.{EconomizerState}
use Rattle.block_words.proofs.Back.{hysteresis_back, pid_with_reset_back, seen_back, true_delay_back, true_false_hold_back}
use Rattle.econ_words.specs.Economizer.{economizer_words, economizer_of}
use Rattle.econ_words.specs.Enable.{enable_words, enable_of}

pub enable_back : (s : EnableState) → enable_of (enable_words s) ≡ s
unfolding enable_of enable_words
enable_back s = λ i. record {
  hysteresis = hysteresis_back s.hysteresis i;
  hold = true_false_hold_back s.hold i;
  outdoor_delay = true_delay_back s.outdoor_delay i;
  return_delay = true_delay_back s.return_delay i;
}

pub economizer_back : (s : EconomizerState) → economizer_of (economizer_words s) ≡ s
unfolding economizer_of economizer_words
economizer_back s = λ i. record {
  last = seen_back s.last i;
  minimum_outdoor_air_loop = pid_with_reset_back s.minimum_outdoor_air_loop i;
  enable = enable_back s.enable i;
}
