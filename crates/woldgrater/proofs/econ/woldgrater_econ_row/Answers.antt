-- Written by tools/words from what freeze protection has.
-- `woldgrater_econ_row`: the row on what the words stand for, and its step as words.
use mathlib.Core.Path.{ap, ◌∙◌}
use Rattle.economizer_controller.specs.Step.{economizer_row}
use Rattle.econ_words.specs.EconomizerCommands.{economizer_commands_words, economizer_commands_zero}
use Rattle.woldgrater.specs.Economizer.{economizer_given}
use Rattle.woldgrater.proofs.AnswerCalls.{answered_is}
use Rattle.woldgrater.proofs.econ.woldgrater_econ_row.Goals as goal

pub returns : goal.returns
unfolding economizer_given
returns c =
    let a = answered_is economizer_commands_words economizer_commands_zero c.economizer_row-step.result.answer c.from-answered.result c.from-answered.ensures in
    (λ i. record { state = c.from-2.ensures i; status = (a i).status; commands = (a i).commands })
    ∙ ap economizer_given (c.economizer_row-step.ensures ∙ λ i. economizer_row (c.from-held.ensures i) (c.from.ensures i))
