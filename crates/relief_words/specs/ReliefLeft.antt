-- `ReliefLeft` of relief_fan_group as words. Written by tools/words.
use Rattle.relief_fan_group.specs.declared.types.ReliefLeft.{ReliefLeft}
use Rattle.relief_words.specs.declared.relief_left.ReliefLeftWords.{ReliefLeftWords}
use Rattle.reals.specs.Constants.{plus_zero}

-- `ReliefLeft` as words
unfoldable pub relief_left_words : ReliefLeft → ReliefLeftWords
relief_left_words s = record {
  tim = s.tim;
  up_tim = s.up_tim;
  dow_tim = s.dow_tim;
}

-- all words 0
unfoldable pub relief_left_zero : ReliefLeftWords
relief_left_zero = record {
  tim = plus_zero;
  up_tim = plus_zero;
  dow_tim = plus_zero;
}
