-- `answer_lines`: what is left after the last line.
use Rattle.line_stream.specs.Lines.{cut}
use Rattle.line_stream.specs.RowKind.{line_answered}
use Rattle.line_stream.proofs.RowKinds.{kind_room}
use Rattle.line_stream.proofs.Turns.{end}
use Rattle.std.proofs.Common.{refl}
use Rattle.row_kinds.proofs.rows.answer_lines.Goals as goal

pub returns-clause-answered : goal.returns-clause-answered
returns-clause-answered g c =
    let k = g.K.RowLines.kind in
    let h = c.loop-j.invariant.0 in
    record {
      within = h.in_text;
      fits = h.fits;
      lines = end (line_answered k) (kind_room k g.met.K.RowLines.sized) _ _ _ _ _ _ _ _ _ h c.requires (λ q p. cut p) (λ p. refl) c.loop-j-test.false;
    }
