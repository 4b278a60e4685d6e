-- `put`: each arm moves the entries as the last one would.
use native.Mathlib.Omega.{arith}
use Prim.Native.Nat.{◌+◌}
use mathlib.Core.Path.{◌≡◌, ◌∙◌}
use Rattle.std.specs.List.{copy_within}
use Rattle.moving_average.proofs.Loops.{moved_none, put_end}
use Rattle.moving_average.proofs.window.put.Goals as goal
use Rattle.moving_average.proofs.window.put.Goals.{in-0, in-1, in_default}

pub returns : goal.returns
returns c =
    let a = c.args in
    let moved : c.match-k.a ≡ copy_within a.a.now a.k (a.k + a.j) 0 =
    elim c.match-k.branch [
      | in-0 w ↦ w.a-is ∙ rw w.in-0.is (moved_none a.a.now a.j)
      | in-1 w ↦ w.a-is ∙ rw w.in-1.is w.copy_within.ensures.after
      | in_default w ↦ w.a-is ∙ w.copy_within-in_default.ensures.after
    ] in
    rw moved (put_end a.a.now a.k a.j (omega arith) a.x (omega arith))
