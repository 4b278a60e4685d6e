-- `Integrator` of moving_average as words. Written by tools/words.
use Rattle.block_words.specs.declared.integrator.IntegratorWords.{IntegratorWords}
use Rattle.moving_average.specs.declared.lent.Integrator.{Integrator}
use Rattle.block_words.specs.Seen.{seen_words, seen_of}

-- `Integrator` as words
unfoldable pub integrator_words : Integrator → IntegratorWords
integrator_words s = record {
  t_start = s.t_start;
  prev_t = seen_words s.prev_t;
  mu = s.mu;
  count = s.count;
}

-- the `Integrator` that words stand for
unfoldable pub integrator_of : IntegratorWords → Integrator
integrator_of w = record {
  t_start = w.t_start;
  prev_t = seen_of w.prev_t;
  mu = w.mu;
  count = w.count;
}
