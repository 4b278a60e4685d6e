-- `pass_rows`: by the kind.
use Rattle.std.proofs.Common.{ap, ◌∙◌}
use Rattle.row_kinds.specs.declared.kind.Phase.TheVariants.{Rows}
use Rattle.row_kinds.proofs.RowLines.{freeze_passed, econ_passed, relief_passed}
use Rattle.row_kinds.proofs.rows.pass_rows.Goals as goal

pub returns-in-Freeze : goal.returns-in-Freeze
returns-in-Freeze c =
    let a = c.answer_lines.ensures in
    freeze_passed c.args.reader.now _ _ _ _ _ _ _ _ _ _ _ a.window (c.requires.at_rows ∙ ap Rows c.in-Freeze.is) _ a.answered

pub returns-in-Relief : goal.returns-in-Relief
returns-in-Relief c =
    let a = c.answer_lines-in-Relief.ensures in
    relief_passed c.args.reader.now _ _ _ _ _ _ _ _ _ (c.requires.at_rows ∙ ap Rows c.in-Relief.is) _ _ _ a.window a.answered

pub returns-in-Econ : goal.returns-in-Econ
returns-in-Econ c =
    let a = c.answer_lines-in-Econ.ensures in
    econ_passed c.args.reader.now _ _ _ _ _ _ _ _ _ _ _ a.window (c.requires.at_rows ∙ ap Rows c.in-Econ.is) _ a.answered
