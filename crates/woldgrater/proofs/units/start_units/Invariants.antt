-- `start_units`: the units before this one have started.
use Rattle.std.proofs.Common.{◌≡◌, ℕ, ◌<◌, length, get_or}
use Rattle.block_words.specs.Flags.{word_flag}
use Rattle.rooftop.specs.Step.{rooftop_start}
use Rattle.woldgrater.specs.Rooftop.{rooftop_memory}
use Rattle.woldgrater.specs.Units.{unit_memory}
use Rattle.woldgrater.proofs.units.start_units.Given as goal

abbrev pub invariant-loop-unit : goal.invariant-loop-unit
invariant-loop-unit l = record {
  units : length l.units ≡ 6;
  times : length l.times ≡ 6;
  integrals : length l.integrals ≡ 6;
  started : (u : ℕ) → u < l.unit → unit_memory l.units l.times l.integrals u ≡ rooftop_memory (rooftop_start (word_flag (get_or l.keeps_hour u 0)));
}
