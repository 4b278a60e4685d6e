-- A row file fed as one chunk, and the end of the input after it, give the output of the whole. Assumes nothing.
use Prim.Native.Nat.{ℕ, ◌+◌, ◌-◌, ◌≤◌, ◌<◌}
use mathlib.Core.Path.{◌≡◌, sym, ap, ◌∙◌}
use mathlib.Core.Bool.{Bool, true, false}
use mathlib.Core.List.{List, [], ◌∷◌, ◌++◌, append-nil, append_assoc}
use native.Mathlib.Nat.{le_of_eq}
use native.Mathlib.Omega.{arith}
use lib.ListN.{length, take, drop, length-append, length-drop}
use lib.Dec.{leb}
use lib.Ieee.{Float}
use lib.Seq.{length-take-le, take-append-le, drop-append-le, drop-drop, take_at}
use borrow.Author.Tests.{leb-true, leb-false}
use Rattle.columns.specs.Column.{Wrote}
use Rattle.line_stream.specs.Lines.{Fed, FedAs, chunkwise, written}
use Rattle.row_kinds.specs.declared.kind.Phase.TheVariants as phase
use Rattle.row_kinds.specs.declared.types.RowReader.{RowReader}
use Rattle.row_kinds.specs.Reader.{First, reader_ending, reader_kept, reader_written}
use Rattle.row_kinds.specs.Rows.{Rows, carried, rows_in, rows_feed, rows_output, fresh_at, Finished}
use Rattle.row_reader.proofs.Phases.{fresh_first}
use Rattle.row_kinds.proofs.Sequences.{rows_any_cutting}
use Rattle.woldgrater_service.specs.Play.{room, Played}

one_chunk : (rows : List ℕ) → ((rows_feed First [] rows).said ++ []) ++ reader_ending (rows_feed First [] rows).next (reader_kept (rows_feed First [] rows).next (rows_feed First [] rows).part) ≡ rows_output (rows ++ [])
unfolding reader_written written chunkwise
one_chunk rows = rows_any_cutting (rows ∷ [])

-- what a fresh reader says of a whole row file
pub whole_said : (reader : RowReader) → reader ≡ fresh_at phase.First → (times integrals : List Float) (rows : List ℕ) (q : Rows) (line : List ℕ) (len : ℕ) (before out : List ℕ) (sent : ℕ)
    → FedAs reader_kept (rows_feed (rows_in (carried reader times integrals)) [] rows) q line len before out sent
    → take sent out ++ reader_ending q (take len line) ≡ rows_output rows
whole_said reader e times integrals rows q line len before out sent h =
    let f = rows_feed First [] rows in
    let g : rows_feed (rows_in (carried reader times integrals)) [] rows ≡ f = ap (λ (x : Rows). rows_feed x [] rows) (fresh_first reader times integrals e) in
    ap (λ (x : List ℕ). x ++ reader_ending q (take len line)) h.said
    ∙ ap (λ (x : Rows). (rows_feed (rows_in (carried reader times integrals)) [] rows).said ++ reader_ending x (take len line)) h.state
    ∙ ap (λ (x : List ℕ). (rows_feed (rows_in (carried reader times integrals)) [] rows).said ++ reader_ending (rows_feed (rows_in (carried reader times integrals)) [] rows).next x) h.part
    ∙ ap (λ (x : Fed Rows). x.said ++ reader_ending x.next (reader_kept x.next x.part)) g
    ∙ ap (λ (x : List ℕ). x ++ reader_ending f.next (reader_kept f.next f.part)) (sym (append-nil f.said))
    ∙ one_chunk rows
    ∙ ap rows_output (append-nil rows)

-- a text written at the start of a buffer stands there
pub wrote_taken : (rest after : List ℕ) (e : List ℕ) (n : ℕ) → Wrote rest 0 e n after n → take n after ≡ e
wrote_taken rest after e n w = ap (λ (x : List ℕ). take n x) w.bytes ∙ take_at e (drop (0 + length e) rest) n w.long

-- the part that what was said leaves: its start, and room for the end
module _ (first more : List ℕ) (sent : ℕ) (fits : sent ≤ length first) where
  pub end_starts : sent ≤ length (first ++ more)
  end_starts = omega (arith, fits, length-append first more)

  pub end_fits : 22 ≤ length more → 22 ≤ length (take (length (first ++ more) - sent) (drop sent (first ++ more)))
  end_fits h =
      let n = length (first ++ more) - sent in
      omega (arith, fits, h, length-append first more, length-take-le n (drop sent (first ++ more)) (le_of_eq (sym (length-drop sent (first ++ more)))))

-- a row file fed to a fresh reader, and the end after it in the part of the output that is left
pub played : (reader last : RowReader) → reader ≡ fresh_at phase.First → (times integrals times' integrals' : List Float) (rows line : List ℕ) (len : ℕ)
    (out before first more rest after tail : List ℕ) (sent n : ℕ) → before ++ more ≡ out
    → FedAs reader_kept (rows_feed (rows_in (carried reader times integrals)) [] rows) (rows_in (carried last times' integrals')) line len before first sent
    → length first ≡ length before → rest ++ tail ≡ drop sent (first ++ more) → n ≤ length rest
    → Finished last (take len line) rest after n
    → Played rows out (take sent (first ++ more) ++ (after ++ tail)) (sent + n)
played reader last e times integrals times' integrals' rows line len out before first more rest after tail sent n split h same left fits w =
    let v = w times' integrals' in
    let said : List ℕ = reader_ending (rows_in (carried last times' integrals')) (take len line) in
    let s : take sent first ++ said ≡ rows_output rows = whole_said reader e times integrals rows (rows_in (carried last times' integrals')) line len before first sent h in
    let long : sent + n ≡ length (rows_output rows) =
    sym (ap length (sym s) ∙ length-append (take sent first) said ∙ ap (λ (x : ℕ). x + length said) (length-take-le sent first h.said_fits) ∙ ap (λ (x : ℕ). sent + x) v.long) in
    let end : sent + (0 + length said) ≡ 0 + length (rows_output rows) = omega (arith, v.long, long) in
    let untouched : drop sent (first ++ more) ≡ drop sent out =
    drop-append-le sent first more h.said_fits ∙ ap (λ (x : List ℕ). x ++ more) h.rest ∙ sym (drop-append-le sent before more (omega (arith, h.said_fits))) ∙ ap (λ (x : List ℕ). drop sent x) split in
    let beyond : drop (0 + length said) rest ++ tail ≡ drop (0 + length (rows_output rows)) out =
    sym (drop-append-le (0 + length said) rest tail (omega (arith, v.long)))
    ∙ ap (λ (x : List ℕ). drop (0 + length said) x) (left ∙ untouched)
    ∙ drop-drop (0 + length said) sent out
    ∙ ap (λ (x : ℕ). drop x out) end in
    record {
      bytes =
          ap (λ (x : List ℕ). x ++ (after ++ tail)) (take-append-le sent first more h.said_fits)
          ∙ ap (λ (x : List ℕ). take sent first ++ (x ++ tail)) v.bytes
          ∙ ap (λ (x : List ℕ). take sent first ++ x) (append_assoc said (drop (0 + length said) rest) tail)
          ∙ sym (append_assoc (take sent first) said (drop (0 + length said) rest ++ tail))
          ∙ ap (λ (x : List ℕ). x ++ (drop (0 + length said) rest ++ tail)) s
          ∙ ap (λ (x : List ℕ). rows_output rows ++ x) beyond;
      long = sym long;
      place = omega arith;
    }

-- ---- what the test of the room tells
module _ (n out : ℕ) (r : Bool) (e : r ≡ leb (room n) out) where
  pub there_is_room : r ≡ true → room n ≤ out
  there_is_room h = leb-true (room n) out (sym e ∙ h)

  pub too_little_room : r ≡ false → out < room n
  too_little_room h = leb-false (room n) out (sym e ∙ h)
