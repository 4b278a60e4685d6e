-- The line of a row by its words: what the writer leaves is what the call leaves. Assumes nothing.
use Prim.Native.Nat.{ℕ}
use mathlib.Core.Path.{◌≡◌, ap, subst, ◌∙◌}
use mathlib.Core.List.{List}
use Rattle.line_stream.specs.RowKind.{RowKind}
use Rattle.std.specs.Prelude.{Result}
use Rattle.refusals.specs.declared.Refusal.{Refusal}
use Rattle.row_writer.specs.Writing.{LeftBy, ReadsBack, write_row}
use Rattle.woldgrater_service.specs.declared.line.LineGiven.{LineGiven}
use Rattle.woldgrater_service.specs.Line.{line_given, LineLeft}

module _ {S R C : Type 0} (kind : RowKind S R C) (row row' : R) (same : row ≡ row') where
  pub line_left : (out after : List ℕ) (written : Result ℕ Refusal) (given : LineGiven) → LeftBy (write_row kind row out 0) written after
      → given ≡ line_given written → LineLeft (write_row kind row' out 0) given after
  line_left out after written given left e = record {
    said = e ∙ ap line_given (left.said ∙ ap (λ (x : R). (write_row kind x out 0).answer) same);
    bytes = left.bytes ∙ ap (λ (x : R). (write_row kind x out 0).buffer) same;
  }

  pub reads_back : ReadsBack kind row → ReadsBack kind row'
  reads_back h = subst (ReadsBack kind) same h
