-- `PidState` of reals as words. Written by tools/words.
use Rattle.block_words.specs.declared.pid.PidWords.{PidWords}
use Rattle.reals.specs.declared.pid.PidState.{PidState}
use Rattle.block_words.specs.Seen.{seen_words, seen_of}

-- `PidState` as words
unfoldable pub pid_words : PidState → PidWords
pid_words s = record {
  integral = s.integral;
  prev_t = seen_words s.prev_t;
}

-- the `PidState` that words stand for
unfoldable pub pid_of : PidWords → PidState
pid_of w = record {
  integral = w.integral;
  prev_t = seen_of w.prev_t;
}
