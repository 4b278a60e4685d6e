-- `write_number`: a number of 2 to 16 digits is its mark and its text.
use Rattle.std.proofs.Common.{◌∙◌}
use Rattle.columns.proofs.Writing.{column_text}
use Rattle.columns.proofs.column.write_number.Goals as goal

pub returns-in-10-to-9999999999999999 : goal.returns-in-10-to-9999999999999999
returns-in-10-to-9999999999999999 c = c.write_text.ensures ∙ column_text _ c.args.negative c.args.n c.mark.ensures
