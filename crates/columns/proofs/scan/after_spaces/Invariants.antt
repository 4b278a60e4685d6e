-- `after_spaces`: what is left of the rest is what is left of all.
use Rattle.std.proofs.Common.{◌≡◌, length}
use Rattle.columns.specs.ScanSteps.{after_spaces}
use Rattle.columns.proofs.scan.after_spaces.Given as goal

abbrev pub invariant-loop-rest : goal.invariant-loop-rest
invariant-loop-rest l = after_spaces l.text ≡ after_spaces l.column

abbrev pub decreases-loop-rest : goal.decreases-loop-rest
decreases-loop-rest l = length l.text
