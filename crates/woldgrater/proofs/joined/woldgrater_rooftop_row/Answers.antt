-- `woldgrater_rooftop_row`: the row on what the words stand for, and its step as words.
use Rattle.std.proofs.Common.{ap, ◌∙◌}
use Rattle.rooftop.specs.Lent.{lent_state}
use Rattle.rooftop.specs.Step.{rooftop_row}
use Rattle.rooftop_words.specs.RooftopCommands.{rooftop_commands_words, rooftop_commands_zero}
use Rattle.woldgrater.specs.Rooftop.{rooftop_given}
use Rattle.woldgrater.proofs.AnswerCalls.{answered_is}
use Rattle.woldgrater.proofs.WindowCalls.{left_is}
use Rattle.woldgrater.proofs.joined.woldgrater_rooftop_row.Goals as goal

pub returns : goal.returns
unfolding rooftop_given
returns c =
    left_is c.from-2.ensures (answered_is rooftop_commands_words rooftop_commands_zero _ _ c.from-answered.ensures) _ _
    ∙ ap rooftop_given
    (c.rooftop_row_lent-step.ensures ∙ λ i. rooftop_row (lent_state (c.from-held.ensures i) c.args.times.now c.args.integrals.now) (c.from.ensures i))
