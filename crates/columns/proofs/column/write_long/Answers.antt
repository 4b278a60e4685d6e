-- `write_long`: the text of the first digits, and after it those of one group, and of another.
use Rattle.std.proofs.Common.{rules, ◌∙◌}
use Rattle.columns.proofs.Writing.{long_column}
use Rattle.columns.proofs.column.write_long.Goals as goal

pub returns : goal.returns
returns c =
    long_column c.args.out.now _ _ _ c.mark.result c.args.negative c.args.n c.requires (search rules) c.mark.ensures
    (c.copy_from_slice.ensures.after ∙ c.first_text.ensures)
    (c.copy_from_slice-2.ensures.after ∙ c.eight_digits.ensures)
    (c.copy_from_slice-3.ensures.after ∙ c.eight_digits-2.ensures)
