-- `woldgrater_freeze_row`: the row on what the words stand for, and its step as words.
use mathlib.Core.Path.{ap, ◌∙◌}
use Rattle.freeze_protection.specs.Step.{freeze_row}
use Rattle.freeze_words.specs.FreezeCommands.{freeze_commands_words, freeze_commands_zero}
use Rattle.woldgrater.specs.Freeze.{freeze_given}
use Rattle.woldgrater.proofs.AnswerCalls.{answered_is}
use Rattle.woldgrater.proofs.freeze.woldgrater_freeze_row.Goals as goal

pub returns : goal.returns
unfolding freeze_given
returns c =
    let a = answered_is freeze_commands_words freeze_commands_zero c.freeze_row-step.result.answer c.from-answered.result c.from-answered.ensures in
    (λ i. record { state = c.from-2.ensures i; status = (a i).status; commands = (a i).commands })
    ∙ ap freeze_given (c.freeze_row-step.ensures ∙ λ i. freeze_row (c.from-held.ensures i) (c.from.ensures i))
