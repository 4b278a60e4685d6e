-- `units_start`: unit by unit.
use Rattle.std.proofs.Common.{rules}
use Rattle.rooftop.specs.Step.{rooftop_start}
use Rattle.board.proofs.Steps.{each_of_six}
use Rattle.board.proofs.step.units_start.Goals as goal

pub returns : goal.returns
returns c =
    rw (
      c.rooftop_start.ensures,
      c.rooftop_start-2.ensures,
      c.rooftop_start-3.ensures,
      c.rooftop_start-4.ensures,
      c.rooftop_start-5.ensures,
      c.rooftop_start-6.ensures,
    )
    (each_of_six rooftop_start c.args.keeps_hour _ _ _ _ _ _ (search rules))
