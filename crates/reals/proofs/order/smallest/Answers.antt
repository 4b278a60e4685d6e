-- `smallest`: the fold over the four values, as four steps.
use Rattle.std.proofs.Common.{rules, ◌≡◌, ◌∙◌, length}
use Rattle.std.specs.Float.{nan}
use Rattle.std.specs.Float.Ieee.{div, of_bits}
use Rattle.std.specs.List.{fold}
use Rattle.reals.specs.Order.{lesser, infinity, smallest}
use Rattle.reals.proofs.Four.{folded}
use Rattle.reals.proofs.order.smallest.Goals as goal

pub returns : goal.returns
unfolding smallest div of_bits
returns c =
    let e : c.fold.result ≡ fold lesser infinity c.args.values = search rules in
    let l : length c.args.values ≡ 4 = search rules in
    e ∙ folded lesser infinity c.args.values nan l
