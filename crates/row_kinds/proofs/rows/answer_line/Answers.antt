-- `answer_line`: the room for an answer, and the line of a refusal's number.
use Rattle.std.proofs.Common.{◌≡◌, ◌+◌, ◌*◌, ◌<◌, List, length, arith, sym, ap, ◌∙◌}
use Rattle.columns.specs.declared.forms.Form.{Form}
use Rattle.columns.specs.Forms.{read_line}
use Rattle.columns.proofs.Lines.{status_words_line}
use Rattle.columns.proofs.Tables.{read_length}
use Rattle.line_stream.specs.RowKind.{line_answered, read_answered, row_line}
use Rattle.row_kinds.proofs.rows.answer_line.Goals as goal

pub write_line-requires : goal.write_line-requires
write_line-requires g c =
    let k = g.K.RowLines.kind in
    let l = g.met.K.RowLines in
    let long = read_length k.row_forms c.args.line.now c.in-Some.words
    (sym c.in-Some.is ∙ c.read_columns.ensures ∙ ap (λ (f : List Form). read_line f c.args.line.now) (c.ROW.ensures ∙ sym l.row_forms)) in
    let m : length k.answer_forms ≡ g.row.M = ap length l.answer_forms ∙ l.answer_count in
    let room : c.args.at + 21 * g.row.M < length c.args.out.now = omega (arith, long, m, l.sized.room, c.requires) in
    let a : g.row.M * 1 < 9223372036854775808 = omega (arith, m, l.sized.answer_columns) in
    let b : g.row.M * 8 < 9223372036854775808 = omega (arith, m, l.sized.answer_columns) in
    (a, (b, (omega arith, room)))

pub returns-in-Err-clause-answered : goal.returns-in-Err-clause-answered
unfolding line_answered read_answered row_line read_line
returns-in-Err-clause-answered g c =
    let l = g.met.K.RowLines in
    grind (arith, l.sized.status, status_words_line l.sized.commands c.number-in-Err.result)
