-- `woldgrater_relief_row`: the row on what the words stand for, and its step as words.
use Rattle.std.proofs.Common.{ap, ◌∙◌}
use Rattle.relief_fan_group.specs.Lent.{lent_state}
use Rattle.relief_fan_group.specs.Step.{relief_row}
use Rattle.relief_words.specs.ReliefCommands.{relief_commands_words, relief_commands_zero}
use Rattle.woldgrater.specs.Relief.{relief_given}
use Rattle.woldgrater.proofs.AnswerCalls.{answered_is}
use Rattle.woldgrater.proofs.WindowCalls.{left_is}
use Rattle.woldgrater.proofs.relief.woldgrater_relief_row.Goals as goal

pub returns : goal.returns
unfolding relief_given
returns c =
    left_is c.from-2.ensures (answered_is relief_commands_words relief_commands_zero _ _ c.from-answered.ensures) _ _
    ∙ ap relief_given
    (c.relief_row_lent-step.ensures ∙ λ i. relief_row (lent_state (c.from-held.ensures i) c.args.times.now c.args.integrals.now) (c.from.ensures i))
