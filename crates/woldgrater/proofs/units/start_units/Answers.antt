-- `start_units`: one unit more has started, and the others are as they were.
use Rattle.std.proofs.Common.{rules, arith, get_or}
use Rattle.block_words.specs.Flags.{word_flag}
use Rattle.rooftop.specs.Step.{rooftop_start}
use Rattle.woldgrater.specs.Rooftop.{rooftop_memory}
use Rattle.woldgrater.proofs.BoardCalls.{one_more, all_started}
use Rattle.woldgrater.proofs.units.start_units.Goals as goal

pub loop-unit-preserved : goal.loop-unit-preserved
loop-unit-preserved c =
    let all = c.loop-unit.invariant in
    record {
      units = search (rules, all.units);
      times = search (rules, all.times);
      integrals = search (rules, all.integrals);
      started = one_more _ _ _ _ _ _ _ (omega (arith, all.units)) (omega (arith, all.times)) (omega (arith, all.integrals))
          (λ u. rooftop_memory (rooftop_start (word_flag (get_or c.args.keeps_hour.now u 0)))) all.started c.woldgrater_rooftop_start.ensures;
    }

pub returns : goal.returns
returns c =
    let all = c.loop-unit.invariant in
    all_started _ _ _ c.args.keeps_hour.now c.told-keeps_hour all.units all.times all.integrals (λ v h. all.started v (omega arith))
