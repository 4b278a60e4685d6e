-- `occupied`: a line has four places.
use Rattle.std.proofs.Common.{rules, length, ℕ, min}
use mathlib.Core.Path.{◌≡◌, sym, ap, ◌∙◌}
use Rattle.std.proofs.lemmas.List.{length-take}
use Rattle.board.proofs.lines.occupied.Goals as goal

pub returns-clause-number : goal.returns-clause-number
returns-clause-number g c =
    let four : length c.args.line.now ≡ 4 = search rules in
    c.min.ensures ∙ sym (length-take c.args.count c.args.line.now ∙ ap (λ (n : ℕ). min c.args.count n) four)
