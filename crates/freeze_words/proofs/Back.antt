-- The words of a value stand for the value. Written by tools/words.
use mathlib.Core.Path.{◌≡◌}
use Rattle.freeze_protection.specs.declared.types.FreezeState.{FreezeState}
use Rattle.block_words.proofs.Back.{edge_back, held_timer_back, hour_timer_back, latch_back, pid_back, seen_back, threshold_back, true_false_hold_back}
use Rattle.freeze_words.specs.Freeze.{freeze_words, freeze_of}

pub freeze_back : (s : FreezeState) → freeze_of (freeze_words s) ≡ s
unfolding freeze_of freeze_words
freeze_back s = λ i. record {
  last = seen_back s.last i;
  les_thr = threshold_back s.les_thr i;
  tim = held_timer_back s.tim i;
  hea_coil_stage_1 = pid_back s.hea_coil_stage_1 i;
  gre_thr = threshold_back s.gre_thr i;
  lat = latch_back s.lat i;
  tim1 = held_timer_back s.tim1 i;
  end_sta_one = edge_back s.end_sta_one i;
  les_thr1 = threshold_back s.les_thr1 i;
  tim2 = held_timer_back s.tim2 i;
  hol_sta2 = true_false_hold_back s.hol_sta2 i;
  tim3 = held_timer_back s.tim3 i;
  les_thr2 = threshold_back s.les_thr2 i;
  tim4 = held_timer_back s.tim4 i;
  lat1 = latch_back s.lat1 i;
  hea_coil_stage_3 = pid_back s.hea_coil_stage_3 i;
  tim5 = hour_timer_back s.tim5 i;
  lat2 = latch_back s.lat2 i;
  end_sta_two = edge_back s.end_sta_two i;
}
