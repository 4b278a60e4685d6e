-- The words of a value stand for the value. Written by tools/words.
use mathlib.Core.Path.{◌≡◌}
use Rattle.rooftop.specs.declared.types.RooftopHeld.{RooftopHeld}
use Rattle.econ_words.proofs.Back.{economizer_back}
use Rattle.freeze_words.proofs.Back.{freeze_back}
use Rattle.relief_words.proofs.Back.{relief_back}
use Rattle.rooftop_words.specs.Rooftop.{rooftop_words, rooftop_of}

pub rooftop_back : (s : RooftopHeld) → rooftop_of (rooftop_words s) ≡ s
unfolding rooftop_of rooftop_words
rooftop_back s = λ i. record {
  stage = s.stage;
  economizer = economizer_back s.economizer i;
  freeze = freeze_back s.freeze i;
  relief = relief_back s.relief i;
}
