-- `gai`: at its end nothing is left.
use Rattle.std.proofs.Common.{rules}
use Rattle.relief_fans.proofs.Weighing.{worked}
use Rattle.relief_fans.proofs.table.gai.Goals as goal

pub returns : goal.returns
returns c = worked c.loop-left.invariant (search rules) (search rules)
