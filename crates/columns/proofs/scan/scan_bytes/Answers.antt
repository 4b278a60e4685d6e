-- `scan_bytes`: the number that is given; that none is given the check finds.
use Rattle.std.proofs.Common.{arith, refl, sym, ◌∙◌}
use Rattle.columns.proofs.Bytes.{a_zero, a_value}
use Rattle.columns.proofs.scan.scan_bytes.Goals as goal

pub returns-then-first-eq48 : goal.returns-then-first-eq48
returns-then-first-eq48 c =
    let m = c.after_minus-negative.ensures in
    c.then_some.ensures ∙ a_zero _ (omega arith) _ c.after_spaces.ensures _ m.1 _ _ c.in_ok-first.ensures.cases.0 _ m.0 c.if-first-eq48.true refl _ c.is_empty.ensures

pub returns : goal.returns
returns c =
    let m = c.after_minus-negative.ensures in
    a_value _ (omega arith) _ c.after_spaces.ensures _ m.1 _ _ c.in_ok-first.ensures.cases.0 _ m.0 c.if-first-eq48.false (sym c.in_ok-value.was ∙ c.value_of.ensures)
