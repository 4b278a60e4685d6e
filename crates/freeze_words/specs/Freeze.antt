-- `FreezeState` of freeze_protection as words. Written by tools/words.
use Rattle.freeze_protection.specs.declared.types.FreezeState.{FreezeState}
use Rattle.freeze_words.specs.declared.freeze.FreezeWords.{FreezeWords}
use Rattle.block_words.specs.Edge.{edge_words, edge_of}
use Rattle.block_words.specs.HeldTimer.{held_timer_words, held_timer_of}
use Rattle.block_words.specs.HourTimer.{hour_timer_words, hour_timer_of}
use Rattle.block_words.specs.Latch.{latch_words, latch_of}
use Rattle.block_words.specs.Pid.{pid_words, pid_of}
use Rattle.block_words.specs.Seen.{seen_words, seen_of}
use Rattle.block_words.specs.Threshold.{threshold_words, threshold_of}
use Rattle.block_words.specs.TrueFalseHold.{true_false_hold_words, true_false_hold_of}

-- `FreezeState` as words
unfoldable pub freeze_words : FreezeState → FreezeWords
freeze_words s = record {
  last = seen_words s.last;
  les_thr = threshold_words s.les_thr;
  tim = held_timer_words s.tim;
  hea_coil_stage_1 = pid_words s.hea_coil_stage_1;
  gre_thr = threshold_words s.gre_thr;
  lat = latch_words s.lat;
  tim1 = held_timer_words s.tim1;
  end_sta_one = edge_words s.end_sta_one;
  les_thr1 = threshold_words s.les_thr1;
  tim2 = held_timer_words s.tim2;
  hol_sta2 = true_false_hold_words s.hol_sta2;
  tim3 = held_timer_words s.tim3;
  les_thr2 = threshold_words s.les_thr2;
  tim4 = held_timer_words s.tim4;
  lat1 = latch_words s.lat1;
  hea_coil_stage_3 = pid_words s.hea_coil_stage_3;
  tim5 = hour_timer_words s.tim5;
  lat2 = latch_words s.lat2;
  end_sta_two = edge_words s.end_sta_two;
}

-- the `FreezeState` that words stand for
unfoldable pub freeze_of : FreezeWords → FreezeState
freeze_of w = record {
  last = seen_of w.last;
  les_thr = threshold_of w.les_thr;
  tim = held_timer_of w.tim;
  hea_coil_stage_1 = pid_of w.hea_coil_stage_1;
  gre_thr = threshold_of w.gre_thr;
  lat = latch_of w.lat;
  tim1 = held_timer_of w.tim1;
  end_sta_one = edge_of w.end_sta_one;
  les_thr1 = threshold_of w.les_thr1;
  tim2 = held_timer_of w.tim2;
  hol_sta2 = true_false_hold_of w.hol_sta2;
  tim3 = held_timer_of w.tim3;
  les_thr2 = threshold_of w.les_thr2;
  tim4 = held_timer_of w.tim4;
  lat1 = latch_of w.lat1;
  hea_coil_stage_3 = pid_of w.hea_coil_stage_3;
  tim5 = hour_timer_of w.tim5;
  lat2 = latch_of w.lat2;
  end_sta_two = edge_of w.end_sta_two;
}
