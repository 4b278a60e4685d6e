-- `write_columns`: column by column.
use Rattle.std.proofs.Common.{◌*◌, arith, ap, ◌∙◌}
use Rattle.std.proofs.lemmas.Slice.Zip.{either_empty_from_Zip}
use Rattle.columns.proofs.Tables.{length_line}
use Rattle.columns.proofs.Loops.{write_start, write_step, write_end}
use Rattle.columns.proofs.forms.write_columns.Goals as goal

pub loop-form-init : goal.loop-form-init
loop-form-init g c =
    rw (c.into_iter-form-iterator.ensures.into_iter_gives)
    (write_start _ _ c.args.forms.now c.args.words.now _ _ (rw c.zip-form-items.ensures.first c.iter.ensures.rest) c.zip-form-items.ensures.second.0 (omega (arith, c.told-forms, c.told-words)) (omega (arith, c.told-words, c.requires)))

pub loop-form-preserved : goal.loop-form-preserved
loop-form-preserved g c =
    let l = c.loop-form in
    let s = c.in-Some.ensures.steps in
    write_step _ _ _ _ _ _ _ c.in-Some.form.now _ _ c.in-Some.word.now _ _ l.invariant s.0 s.1 c.write_word-to.auto.out c.write_word-to.ensures

pub returns : goal.returns
returns g c =
    write_end _ _ _ _ _ (21 * g.row.M) _ _ c.loop-form.invariant (either_empty_from_Zip c.loop-form.form-iterator c.next.new.self _ c.in-None.is c.next.ensures.steps)
    (length_line c.args.forms.now c.args.words.now (omega (arith, c.told-forms, c.told-words)) ∙ ap (λ n. 21 * n) c.told-words)
