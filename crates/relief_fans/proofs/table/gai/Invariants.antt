-- `gai`: while something is left there is a fan to come.
use Rattle.std.proofs.Common.{◌-◌}
use Rattle.relief_fans.proofs.Weighing.{Weighed}
use Rattle.relief_fans.proofs.table.gai.Given as goal

abbrev pub invariant-loop-left : goal.invariant-loop-left
invariant-loop-left l = Weighed l.initial.out l.left l.i l.out

abbrev pub decreases-loop-left : goal.decreases-loop-left
decreases-loop-left l = 4 - l.i
