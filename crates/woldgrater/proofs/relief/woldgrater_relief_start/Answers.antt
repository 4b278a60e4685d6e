-- `woldgrater_relief_start`: the words of a fresh state, and arrays of 0.
use Rattle.std.proofs.Common.{ap, ◌∙◌}
use Rattle.moving_average.specs.State.{moving_average_new}
use Rattle.relief_fan_group.specs.Step.{relief_fresh}
use Rattle.relief_words.specs.Relief.{relief_words}
use Rattle.woldgrater.specs.Memory.{memory}
use Rattle.woldgrater.proofs.relief.woldgrater_relief_start.Goals as goal

pub returns : goal.returns
unfolding relief_fresh moving_average_new
returns c = ap (λ w. memory w relief_fresh.window.times relief_fresh.window.integrals) (c.from.ensures ∙ ap relief_words c.held_fresh.ensures)
