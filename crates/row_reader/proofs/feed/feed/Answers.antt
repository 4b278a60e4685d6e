-- `feed`: by whether the reader has stopped, and whether a line ends in the chunk.
use Rattle.std.proofs.Common.{ℕ, List, ◌+◌, ◌-◌, ◌*◌, ◌≤◌, ◌<◌, ◌≡◌, length, take, drop, arith, sym, ap, ◌∙◌}
use lib.ListN.{length-drop}
use lib.Seq.{length-take-le}
use Rattle.line_stream.proofs.Feeding.{found_within, fed_part, fed_on}
use Rattle.row_kinds.specs.Reader.{reader_kept}
use Rattle.row_kinds.specs.Rows.{Rows, rows_line, with_rows, carried}
use Rattle.row_kinds.proofs.Sequences.{rows_cut}
use Rattle.row_reader.proofs.Phases.{is_stopped, not_stopped, same_rows, both_moved, stopped_fed, line_fits}
use Rattle.row_reader.proofs.feed.feed.Goals.{After-kept_line-at}
use Rattle.row_reader.proofs.feed.feed.Goals as goal

pub returns-then-stopped : goal.returns-then-stopped
returns-then-stopped c = stopped_fed _ (is_stopped _ (sym c.stopped.ensures ∙ c.if-stopped.true)) (record { times_long = c.told-times; integrals_long = c.told-integrals }) _ _ _ _

pub slice_bounds-keep-end : goal.slice_bounds-keep-end
slice_bounds-keep-end c = sym (length-take-le _ _ (found_within _ _ c.line_end-j.ensures))

-- after the line that the first newline ends: what is left of the chunk, and the room for its answers
module _ (c : After-kept_line-at) where
  abbrev chunk : List ℕ
  chunk = c.args.chunk.now

  abbrev j : ℕ
  j = c.line_end-j.result

  ends : j < length chunk
  ends = c.if-j-chunk.true

  left : length (take (length chunk - (j + 1)) (drop (j + 1) chunk)) ≡ length chunk - (j + 1)
  left = length-take-le (length chunk - (j + 1)) (drop (j + 1) chunk) (omega (arith, length-drop (j + 1) chunk))

  room : c.kept_line-at.result + 22 * (length chunk - (j + 1)) ≤ length c.args.out.now
  room = omega (arith, c.requires.room, ends, c.keep-len.ensures.fits, line_fits _ c.keep-len.new.line c.keep-len.result _ _ _ _ c.kept_line-at.ensures)

pub pass-rest-requires : goal.pass-rest-requires
pass-rest-requires c =
    let t = (goal.at.pass-rest-requires c).After-kept_line-at in
    let k = c.kept_line-at in
    record { named = k.ensures.named; room = omega (arith, room t, left t, k.auto.out) }

pub returns-then-j-chunk : goal.returns-then-j-chunk
returns-then-j-chunk c =
    let t = (goal.at.returns-then-j-chunk c).After-kept_line-at in
    let k = c.kept_line-at.ensures in
    let p = c.pass-rest.ensures in
    let before = carried c.args.reader.now c.args.times.now c.args.integrals.now in
    let fed =
    fed_on rows_line reader_kept (λ q p. rows_cut q 256 p (omega arith)) _ _ _ _ _ c.line_end-j.ensures _ _ c.keep-len.ensures (ends t) _ _ _ _ k.answered _
    c.line_end.ensures _ _ _ _ (omega (arith, p.fits, p.within, left t, room t)) p.lines _ _ c.keep-kept.ensures in
    record {
      window = p.window;
      moved =
          both_moved before _ _ _ _ k.moved k.answered.state p.moved p.lines.state p.same_phase
          ∙ ap (λ (x : Rows). with_rows x before) (sym p.lines.state ∙ fed.state);
      fed = fed;
    }

pub returns : goal.returns
returns c =
    let before = carried c.args.reader.now c.args.times.now c.args.integrals.now in
    let fed =
    fed_part rows_line reader_kept (λ q p. rows_cut q 256 p (omega arith)) _ _ _ _ _ c.line_end-j.ensures _ _ c.keep-len.ensures
    (not_stopped before (sym c.stopped.ensures ∙ c.if-stopped.false)) c.if-j-chunk.false _ in
    record { window = record { times_long = c.told-times; integrals_long = c.told-integrals }; moved = sym (same_rows before) ∙ ap (λ (x : Rows). with_rows x before) fed.state; fed = fed }
