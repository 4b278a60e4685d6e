-- A row file fed chunk by chunk, and ended, gives the output of the whole file, however it is cut. Assumes nothing.
use Prim.Native.Nat.{ℕ}
use mathlib.Core.Path.{◌≡◌, refl, sym, ap, ◌∙◌}
use mathlib.Core.List.{List, [], ◌∷◌, ◌++◌}
use lib.ListN.{take}
use Rattle.line_stream.specs.Lines.{Fed, whole, chunkwise, written}
use Rattle.row_kinds.specs.declared.kind.Phase.TheVariants as phase
use Rattle.row_kinds.specs.Reader.{First, reader_ending, reader_kept, reader_written}
use Rattle.row_kinds.specs.Rows.{Rows, rows_line, rows_feed, rows_output, rows_in, fresh_at}
use Rattle.row_reader.proofs.Phases.{fresh_first}
use Rattle.row_kinds.proofs.Sequences.{rows_any_cutting}
use Rattle.reader_words.specs.RowReader.{row_reader_of}
use Rattle.reader_words.proofs.Back.{row_reader_back}
use Rattle.woldgrater_service.specs.declared.chunks.State.{State}
use Rattle.woldgrater_service.proofs.Playing.{wrote_taken}
use Rattle.woldgrater_service.specs.Chunks.{Memory, started, reader_in, part_in, Call, Calls, memory_after, fed_by, sent_by, EndedBy}

-- chunk after chunk, as `rows_written` goes
abbrev chunks : Rows → List ℕ → List (List ℕ) → Fed Rows
chunks = chunkwise rows_line reader_kept

-- where calls stand after a memory
abbrev called : Memory → List Call → Fed Rows
called m calls = record { next = rows_in (reader_in (memory_after m calls)); part = part_in (memory_after m calls).state (memory_after m calls).line; said = sent_by calls }

calls_are_chunks : (m : Memory) (calls : List Call) → Calls m calls → chunks (rows_in (reader_in m)) (part_in m.state m.line) (fed_by calls) ≡ called m calls
unfolding chunkwise
calls_are_chunks m [] h = refl
calls_are_chunks m (c ∷ calls) h =
    let f = rows_feed (rows_in (reader_in m)) (part_in m.state m.line) c.chunk in
    let rest : chunks f.next (reader_kept f.next f.part) (fed_by calls) ≡ called c.next calls = (λ i. chunks (sym h.0.fed.state i) (sym h.0.fed.part i) (fed_by calls)) ∙ calls_are_chunks c.next calls h.1 in
    λ i. record { next = (rest i).next; part = (rest i).part; said = sym h.0.fed.said i ++ (rest i).said }

-- the reader of a started memory is before the first line
started_first : (m : Memory) → m.state ≡ started → rows_in (reader_in m) ≡ First
unfolding started
started_first m e = fresh_first _ m.times m.integrals (ap (λ (s : State). row_reader_of s.reader) e ∙ row_reader_back (fresh_at phase.First))

started_part : (m : Memory) → m.state ≡ started → part_in m.state m.line ≡ []
unfolding started
started_part m e = ap (λ (s : State). part_in s m.line) e

-- a file started, fed in chunks and ended
pub file_fed : (m : Memory) → m.state ≡ started → (calls : List Call) → Calls m calls → (out after : List ℕ) (r : ℕ) → EndedBy (memory_after m calls).state (memory_after m calls).line out after r
    → sent_by calls ++ take r after ≡ rows_output (whole (fed_by calls))
unfolding reader_written written
file_fed m e calls h out after r w =
    let last = memory_after m calls in
    let f = chunks First [] (fed_by calls) in
    let is : called m calls ≡ f = sym (calls_are_chunks m calls h) ∙ (λ i. chunks (started_first m e i) (started_part m e i) (fed_by calls)) in
    ap (λ (x : List ℕ). sent_by calls ++ x) (wrote_taken out after _ r (w last.times last.integrals))
    ∙ ap (λ (x : Fed Rows). x.said ++ reader_ending x.next x.part) is
    ∙ rows_any_cutting (fed_by calls)
