-- `growing_rows` counts no more rows than there are.
use Rattle.std.proofs.Common.{◌≤◌}
use Rattle.replay_blocks.proofs.growing_rows.Given as goal

abbrev pub invariant-loop-n : goal.invariant-loop-n
invariant-loop-n l = l.rows ≤ l.n
