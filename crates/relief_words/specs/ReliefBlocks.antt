-- `ReliefBlocks` of relief_fan_group as words. Written by tools/words.
use Rattle.std.specs.Prelude.{pos, replicate, map}
use Rattle.relief_fan_group.specs.declared.types.ReliefBlocks.{ReliefBlocks}
use Rattle.relief_words.specs.declared.relief_blocks.ReliefBlocksWords.{ReliefBlocksWords}
use Rattle.block_words.specs.Latch.{latch_words, latch_of}
use Rattle.block_words.specs.Pre.{pre_words, pre_of}
use Rattle.block_words.specs.PresentTimer.{present_timer_words, present_timer_of}
use Rattle.block_words.specs.Seen.{seen_words, seen_of}
use Rattle.block_words.specs.Threshold.{threshold_words, threshold_of}
use Rattle.block_words.specs.TrueDelayOnInit.{true_delay_on_init_words, true_delay_on_init_of}

-- `ReliefBlocks` as words
unfoldable pub relief_blocks_words : ReliefBlocks → ReliefBlocksWords
relief_blocks_words s = record {
  last = seen_words s.last;
  alarms = s.alarms;
  alarms_unused = replicate 4 (pos 0);
  gre_thr = threshold_words s.gre_thr;
  les_thr = threshold_words s.les_thr;
  tim = present_timer_words s.tim;
  lat = latch_words s.lat;
  gre_thr1 = map threshold_words s.gre_thr1;
  gre_thr2 = threshold_words s.gre_thr2;
  up_tim = present_timer_words s.up_tim;
  pre = pre_words s.pre;
  les_thr1 = map threshold_words s.les_thr1;
  les_thr2 = map threshold_words s.les_thr2;
  tru_del = map true_delay_on_init_words s.tru_del;
  lat2 = latch_words s.lat2;
  les_thr3 = threshold_words s.les_thr3;
  dow_tim = present_timer_words s.dow_tim;
  pre1 = pre_words s.pre1;
  les_thr4 = map threshold_words s.les_thr4;
  les_thr5 = map threshold_words s.les_thr5;
  tru_del1 = map true_delay_on_init_words s.tru_del1;
  lat1 = latch_words s.lat1;
  gre_thr3 = map threshold_words s.gre_thr3;
}

-- the `ReliefBlocks` that words stand for
unfoldable pub relief_blocks_of : ReliefBlocksWords → ReliefBlocks
relief_blocks_of w = record {
  last = seen_of w.last;
  alarms = w.alarms;
  gre_thr = threshold_of w.gre_thr;
  les_thr = threshold_of w.les_thr;
  tim = present_timer_of w.tim;
  lat = latch_of w.lat;
  gre_thr1 = map threshold_of w.gre_thr1;
  gre_thr2 = threshold_of w.gre_thr2;
  up_tim = present_timer_of w.up_tim;
  pre = pre_of w.pre;
  les_thr1 = map threshold_of w.les_thr1;
  les_thr2 = map threshold_of w.les_thr2;
  tru_del = map true_delay_on_init_of w.tru_del;
  lat2 = latch_of w.lat2;
  les_thr3 = threshold_of w.les_thr3;
  dow_tim = present_timer_of w.dow_tim;
  pre1 = pre_of w.pre1;
  les_thr4 = map threshold_of w.les_thr4;
  les_thr5 = map threshold_of w.les_thr5;
  tru_del1 = map true_delay_on_init_of w.tru_del1;
  lat1 = latch_of w.lat1;
  gre_thr3 = map threshold_of w.gre_thr3;
}
