-- What is carried from call to call as words is the reader that they stand for. Assumes nothing.
use Prim.Native.Nat.{ℕ}
use mathlib.Core.Path.{◌≡◌, sym, ap, subst, ◌∙◌}
use mathlib.Core.List.{List}
use lib.Ieee.{Float}
use Rattle.columns.specs.Column.{Wrote}
use Rattle.row_kinds.specs.declared.types.RowReader.{RowReader}
use Rattle.row_kinds.specs.Reader.{reader_ending}
use Rattle.row_kinds.specs.Rows.{Carried, carried, rows_in, Finished}
use Rattle.row_kinds.specs.Rows as Rows
use Rattle.reader_words.specs.RowReader.{row_reader_words, row_reader_of}
use Rattle.reader_words.proofs.Back.{row_reader_back}
use Rattle.woldgrater_service.specs.declared.chunks.State.{State}
use Rattle.woldgrater_service.specs.Chunks.{memory, part_in, FedTo, EndedBy}

module _ (state : State) (reader : RowReader) (e : reader ≡ row_reader_of state.reader) (line : List ℕ) where
  -- a chunk fed to the reader that the state stands for, and the next reader as words
  pub fed_to : (times integrals times' integrals' : List Float) (chunk line' out out' : List ℕ) (sent : ℕ) (next : RowReader) (state' : State)
      → state'.reader ≡ row_reader_words next
      → Rows.FedTo (carried reader times integrals) (part_in state line) chunk out (carried next times' integrals') line' state'.kept out' sent
      → FedTo (memory state line times integrals) chunk out (memory state' line' times' integrals') out' sent
  fed_to times integrals times' integrals' chunk line' out out' sent next state' w =
      subst (λ (x : Type 0). x) (λ i. Rows.FedTo (carried (e i) times integrals) (part_in state line) chunk out (carried (back i) times' integrals') line' state'.kept out' sent)
    where
      back : next ≡ row_reader_of state'.reader
      back = sym (ap row_reader_of w ∙ row_reader_back next)

  -- the end of the input, said of that reader
  pub ended_by : (out after : List ℕ) (r : ℕ) → Finished reader (part_in state line) out after r → EndedBy state line out after r
  ended_by out after r w times integrals = subst (λ (t : List ℕ). Wrote out 0 t r after r) (λ i. reader_ending (rows_in (carried (e i) times integrals)) (part_in state line)) (w times integrals)
