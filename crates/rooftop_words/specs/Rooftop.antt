-- `RooftopHeld` of rooftop as words. Written by tools/words.
use Rattle.rooftop.specs.declared.types.RooftopHeld.{RooftopHeld}
use Rattle.rooftop_words.specs.declared.rooftop_state.RooftopWords.{RooftopWords}
use Rattle.econ_words.specs.Economizer.{economizer_words, economizer_of}
use Rattle.freeze_words.specs.Freeze.{freeze_words, freeze_of}
use Rattle.relief_words.specs.Relief.{relief_words, relief_of}

-- `RooftopHeld` as words
unfoldable pub rooftop_words : RooftopHeld → RooftopWords
rooftop_words s = record {
  stage = s.stage;
  economizer = economizer_words s.economizer;
  freeze = freeze_words s.freeze;
  relief = relief_words s.relief;
}

-- the `RooftopHeld` that words stand for
unfoldable pub rooftop_of : RooftopWords → RooftopHeld
rooftop_of w = record {
  stage = w.stage;
  economizer = economizer_of w.economizer;
  freeze = freeze_of w.freeze;
  relief = relief_of w.relief;
}
