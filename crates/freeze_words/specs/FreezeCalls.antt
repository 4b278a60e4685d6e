-- `FreezeCalls` of freeze_protection as words. Written by tools/words.
use Rattle.freeze_protection.specs.declared.types.FreezeCalls.{FreezeCalls}
use Rattle.freeze_words.specs.declared.freeze_calls.FreezeCallsWords.{FreezeCallsWords}
use Rattle.block_words.specs.Flags.{flag_word}
use Rattle.block_words.specs.TimerOutput.{timer_output_words, timer_output_zero}

-- `FreezeCalls` as words
unfoldable pub freeze_calls_words : FreezeCalls → FreezeCallsWords
freeze_calls_words s = record {
  les_thr_y = flag_word s.les_thr_y;
  tim = timer_output_words s.tim;
  gre_thr_y = flag_word s.gre_thr_y;
  tim1 = timer_output_words s.tim1;
  end_sta_one_y = flag_word s.end_sta_one_y;
  les_thr1_y = flag_word s.les_thr1_y;
  tim2 = timer_output_words s.tim2;
  hol_sta2_y = flag_word s.hol_sta2_y;
  tim3 = timer_output_words s.tim3;
  les_thr2_y = flag_word s.les_thr2_y;
  tim4 = timer_output_words s.tim4;
}

-- all words 0
unfoldable pub freeze_calls_zero : FreezeCallsWords
freeze_calls_zero = record {
  les_thr_y = 0;
  tim = timer_output_zero;
  gre_thr_y = 0;
  tim1 = timer_output_zero;
  end_sta_one_y = 0;
  les_thr1_y = 0;
  tim2 = timer_output_zero;
  hol_sta2_y = 0;
  tim3 = timer_output_zero;
  les_thr2_y = 0;
  tim4 = timer_output_zero;
}
