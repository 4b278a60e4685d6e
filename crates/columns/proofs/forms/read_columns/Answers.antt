-- `read_columns`: a column more; its start, its end and a column that is badly formed the check finds.
use Rattle.std.proofs.Common.{get_or, arith, sym, ap, ◌∙◌}
use Rattle.columns.specs.declared.forms.Form.TheVariants.{Float}
use Rattle.columns.specs.Forms.{read_word}
use Rattle.columns.proofs.Loops.{read_step}
use Rattle.columns.proofs.forms.read_columns.Goals as goal

pub loop-i-preserved : goal.loop-i-preserved
loop-i-preserved g c =
    let l = c.loop-i in
    read_step c.args.forms.now c.args.line.now l.words l.i l.invariant (omega (arith, c.told-forms, c.loop-i-test.true)) Float _
    (sym c.in_ok-words.was ∙ c.read_word.ensures ∙ ap (λ b. read_word (get_or c.args.forms.now l.i Float) b) c.column_of.ensures)
