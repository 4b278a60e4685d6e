-- `answer_lines`: that of proofs/Turns.antt of `line_stream`, and the window.
use Rattle.std.proofs.Common.{length, ◌-◌}
use Rattle.line_stream.specs.Lines.{fed_from}
use Rattle.line_stream.specs.RowKind.{line_answered}
use Rattle.line_stream.proofs.RowKinds.{kind_room}
use Rattle.line_stream.proofs.Turns.{Held}
use Rattle.row_writer.specs.Lines.{WindowLeft}
use Rattle.row_kinds.proofs.rows.answer_lines.Given as goal

abbrev pub invariant-loop-j : goal.invariant-loop-j
invariant-loop-j g l =
    let k = g.K.RowLines.kind in
    let b = l.initial in
    Held (line_answered k) (kind_room k g.met.K.RowLines.sized) l.text b.out (fed_from (line_answered k) l.text (g.K.RowLines.held l.state b.times b.integrals) 0 l.first) l.at l.out (g.K.RowLines.held l.held l.times l.integrals) l.sent l.i l.j
    × WindowLeft g.K.RowLines.has_window b.times b.integrals l.times l.integrals

abbrev pub decreases-loop-j : goal.decreases-loop-j
decreases-loop-j g l = length l.text - l.i
