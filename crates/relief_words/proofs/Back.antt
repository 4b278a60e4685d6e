-- The words of a value stand for the value. Written by tools/words.
use mathlib.Core.Path.{◌≡◌}
use Rattle.relief_fan_group.specs.declared.types.ReliefBlocks.{ReliefBlocks}
use Rattle.relief_fan_group.specs.declared.types.ReliefHeld.{ReliefHeld}
use Rattle.block_words.proofs.Back.{integrator_back, latch_back, pre_back, present_timer_back, seen_back, threshold_back, true_delay_on_init_back}
use Rattle.block_words.proofs.Elements.{each_back}
use Rattle.block_words.specs.Threshold.{threshold_words, threshold_of}
use Rattle.block_words.specs.TrueDelayOnInit.{true_delay_on_init_words, true_delay_on_init_of}
use Rattle.relief_words.specs.Relief.{relief_words, relief_of}
use Rattle.relief_words.specs.ReliefBlocks.{relief_blocks_words, relief_blocks_of}

pub relief_blocks_back : (s : ReliefBlocks) → relief_blocks_of (relief_blocks_words s) ≡ s
unfolding relief_blocks_of relief_blocks_words
relief_blocks_back s = λ i. record {
  last = seen_back s.last i;
  alarms = s.alarms;
  gre_thr = threshold_back s.gre_thr i;
  les_thr = threshold_back s.les_thr i;
  tim = present_timer_back s.tim i;
  lat = latch_back s.lat i;
  gre_thr1 = each_back threshold_words threshold_of threshold_back s.gre_thr1 i;
  gre_thr2 = threshold_back s.gre_thr2 i;
  up_tim = present_timer_back s.up_tim i;
  pre = pre_back s.pre i;
  les_thr1 = each_back threshold_words threshold_of threshold_back s.les_thr1 i;
  les_thr2 = each_back threshold_words threshold_of threshold_back s.les_thr2 i;
  tru_del = each_back true_delay_on_init_words true_delay_on_init_of true_delay_on_init_back s.tru_del i;
  lat2 = latch_back s.lat2 i;
  les_thr3 = threshold_back s.les_thr3 i;
  dow_tim = present_timer_back s.dow_tim i;
  pre1 = pre_back s.pre1 i;
  les_thr4 = each_back threshold_words threshold_of threshold_back s.les_thr4 i;
  les_thr5 = each_back threshold_words threshold_of threshold_back s.les_thr5 i;
  tru_del1 = each_back true_delay_on_init_words true_delay_on_init_of true_delay_on_init_back s.tru_del1 i;
  lat1 = latch_back s.lat1 i;
  gre_thr3 = each_back threshold_words threshold_of threshold_back s.gre_thr3 i;
}

pub relief_back : (s : ReliefHeld) → relief_of (relief_words s) ≡ s
unfolding relief_of relief_words
relief_back s = λ i. record {
  integrator = integrator_back s.integrator i;
  blocks = relief_blocks_back s.blocks i;
}
