-- `play`: at each turn the kept bytes fit.
use Rattle.std.proofs.Common.{◌≤◌}
use Rattle.rows.proofs.play.Given as goal

abbrev pub invariant-loop : goal.invariant-loop
invariant-loop g l = l.len ≤ 256
