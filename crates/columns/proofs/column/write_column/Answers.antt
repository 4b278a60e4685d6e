-- `write_column`: the number's column, in its 21 places.
use Rattle.columns.proofs.Inverse.{length_column}
use Rattle.columns.proofs.Writing.{placed}
use Rattle.columns.proofs.column.write_column.Goals as goal

pub returns : goal.returns
returns c =
    let first = c.split_at_mut-rest.ensures in
    let then = c.split_at_mut-places.ensures in
    placed _ _ _ _ _ _ _ 21 first.front first.back then.back c.write_number.ensures (length_column c.args.negative c.args.n)
