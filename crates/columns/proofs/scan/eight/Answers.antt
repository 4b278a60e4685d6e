-- `eight`: the bytes of digits are at least those of zeros. Nothing in this goal shows the check which bytes they are.
use Rattle.std.proofs.Common.{arith, ◌-◌, ◌∙◌}
use Rattle.std.proofs.lemmas.List.{take-take}
use Rattle.columns.proofs.Digits.{eight_least}
use Rattle.columns.proofs.scan.eight.Goals as goal

pub overflow_sub-ones : goal.overflow_sub-ones
overflow_sub-ones c = eight_least c.args.column.now c.args.at c.requires.1 _ (c.in-Some.ensures.cases.same ∙ take-take 8 (21 - c.args.at) _ (omega arith)) _ c.from_le_bytes-ones.ensures
