-- `first_between`: the unit here has a row, or else is passed.
use Rattle.std.proofs.Common.{rules, length}
use mathlib.Core.Path.{sym, ◌∙◌}
use Rattle.std.proofs.lemmas.Bool.{lt-ltb, le-ltb}
use Rattle.board.specs.Lines.{lines_of, waits}
use Rattle.board.proofs.Places.{found_here, found_behind}
use Rattle.board.proofs.lines.first_between.Goals as goal

pub returns-then-waiting-gt0-clause-found : goal.returns-then-waiting-gt0-clause-found
returns-then-waiting-gt0-clause-found g c =
    let lines = lines_of c.args.counts.now c.args.rows.now in
    sym (found_here (waits lines) c.loop-unit.unit c.args.to (search rules) (search rules) (lt-ltb 0 (length (lines c.loop-unit.unit)) (search rules))) ∙ c.loop-unit.invariant

pub loop-unit-preserved : goal.loop-unit-preserved
loop-unit-preserved g c =
    let lines = lines_of c.args.counts.now c.args.rows.now in
    found_behind (waits lines) c.loop-unit.unit c.args.to (search rules) (search rules) (le-ltb 0 (length (lines c.loop-unit.unit)) (search rules)) ∙ c.loop-unit.invariant
