-- `FreezeLeft` of freeze_protection as words. Written by tools/words.
use Rattle.freeze_protection.specs.declared.types.FreezeLeft.{FreezeLeft}
use Rattle.freeze_words.specs.declared.freeze_left.FreezeLeftWords.{FreezeLeftWords}
use Rattle.reals.specs.Constants.{plus_zero}

-- `FreezeLeft` as words
unfoldable pub freeze_left_words : FreezeLeft → FreezeLeftWords
freeze_left_words s = record {
  tim = s.tim;
  tim1 = s.tim1;
  tim2 = s.tim2;
  tim3 = s.tim3;
  tim4 = s.tim4;
  tim5 = s.tim5;
}

-- all words 0
unfoldable pub freeze_left_zero : FreezeLeftWords
freeze_left_zero = record {
  tim = plus_zero;
  tim1 = plus_zero;
  tim2 = plus_zero;
  tim3 = plus_zero;
  tim4 = plus_zero;
  tim5 = plus_zero;
}
