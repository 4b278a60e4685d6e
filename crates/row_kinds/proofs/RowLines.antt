-- The lines of a kind of rows, answered by themselves, as those of the reader that the code carries. Assumes nothing.
use Prim.Native.Nat.{ℕ, ◌+◌, ◌-◌}
use mathlib.Core.Path.{◌≡◌, refl, sym, ap, ◌∙◌}
use mathlib.Core.List.{List, [], ◌∷◌, ◌++◌}
use mathlib.Core.Bool.{Bool, true, false, cond}
use lib.Dec.{ltb}
use lib.Ieee.{Float}
use lib.ListN.{length, take, drop}
use Rattle.columns.proofs.Writing.{wrote_text}
use Rattle.line_stream.specs.Lines.{Answer, Fed, answers, feed, lines_after, rest_after, onward, fed_from}
use Rattle.row_writer.specs.Lines.{WindowLeft}
use Rattle.freeze_protection.specs.declared.types.FreezeState.{FreezeState}
use Rattle.economizer_controller.specs.declared.types.EconomizerState.{EconomizerState}
use Rattle.relief_fan_group.specs.declared.types.ReliefHeld.{ReliefHeld}
use Rattle.relief_fan_group.specs.Lent.{lent_state}
use Rattle.freeze_lines.specs.Freeze.{freeze_answered}
use Rattle.relief_lines.specs.Relief.{relief_answered}
use Rattle.econ_lines.specs.Econ.{econ_answered}
use Rattle.row_kinds.specs.declared.kind.Kind.{Kind}
use Rattle.row_kinds.specs.declared.kind.Kind.TheVariants as kind
use Rattle.row_kinds.specs.declared.kind.Phase.{Phase}
use Rattle.row_kinds.specs.declared.kind.Phase.TheVariants as phase
use Rattle.row_kinds.specs.declared.types.RowReader.{RowReader}
use Rattle.row_kinds.specs.Reader.{At, answer_as, reader_kept, reader_line}
use Rattle.row_kinds.specs.Rows.{Sequence, Freeze, Relief, Econ, Rows, rows_line, phase_first, Carried, carried, sequence_in, rows_in, with_sequence, with_rows, Window, LinesAnswered, LinesPassed}
use Rattle.row_kinds.proofs.Sequences.{at_phase_lem}

-- ---- a sequence in a larger one: its lines are answered alike

abbrev fed_as : {S Q : Type 0} → (S → Q) → Fed S → Fed Q
fed_as f x = record { next = f x.next; part = x.part; said = x.said }

module _ {S Q : Type 0} (f : S → Q) (line : S → List ℕ → Answer S) (line' : Q → List ℕ → Answer Q) (alike : (s : S) (l : List ℕ) → line' (f s) l ≡ answer_as f (line s l)) where
  answers_as : (s : S) (lines : List (List ℕ)) → answers line' (f s) lines ≡ answer_as f (answers line s lines)
  unfolding answers
  answers_as s [] = refl
  answers_as s (l ∷ lines) =
      ap (λ (a : Answer Q). record { next = (answers line' a.next lines).next; said = a.said ++ (answers line' a.next lines).said }) (alike s l)
      ∙ ap (λ (b : Answer Q). record { next = b.next; said = (line s l).said ++ b.said }) (answers_as (line s l).next lines)

  feed_as : (s : S) (p bytes : List ℕ) → feed line' (f s) p bytes ≡ fed_as f (feed line s p bytes)
  unfolding feed
  feed_as s p bytes = ap (λ (a : Answer Q). record { next = a.next; part = rest_after p bytes; said = a.said }) (answers_as s (lines_after p bytes))

  from_as : (text : List ℕ) (s : S) (i j : ℕ) → fed_from line' text (f s) i j ≡ fed_as f (fed_from line text s i j)
  unfolding fed_from
  from_as text s i j = by (ltb j (length text))
    where
      l : List ℕ
      l = take (j - i) (drop i text)

      bytes : List ℕ
      bytes = drop (j + 1) text

      by : (t : Bool) → cond t (onward line' (f s) l bytes) (record { next = f s; part = drop i text; said = [] })
          ≡ fed_as f (cond t (onward line s l bytes) (record { next = s; part = drop i text; said = [] }))
      by true =
          ap (λ (a : Answer Q). record { next = (feed line' a.next [] bytes).next; part = (feed line' a.next [] bytes).part; said = a.said ++ (feed line' a.next [] bytes).said }) (alike s l)
          ∙ ap (λ (b : Fed Q). record { next = b.next; part = b.part; said = (line s l).said ++ b.said }) (feed_as (line s l).next [] bytes)
      by false = refl

-- ---- the window, after one row and another

pub window_on : {h : Bool} {t g t' g' t'' g'' : List Float} → WindowLeft h t g t' g' → WindowLeft h t' g' t'' g'' → WindowLeft h t g t'' g''
window_on v w = record {
  times_long = w.times_long;
  integrals_long = w.integrals_long;
  kept = λ e. ((w.kept e).0 ∙ (v.kept e).0, (w.kept e).1 ∙ (v.kept e).1);
}

-- ---- what is carried, by the kind of its rows

module _ (r : RowReader) (times integrals : List Float) (text : List ℕ) (first : ℕ) (out : List ℕ) (from rest : ℕ) (after : List ℕ) (at : ℕ) where
  abbrev before : Carried
  before = carried r times integrals

  -- by a state of the kind, and what is carried with it
  passed : {S : Type 0} (k : Kind) → r.phase ≡ phase.Rows k → (f : S → Sequence) (line : S → List ℕ → Answer S)
      → ((s : S) (l : List ℕ) → rows_line (At (f s)) l ≡ answer_as (λ (x : S). At (f x)) (line s l)) → (s s' : S) → sequence_in k before ≡ f s
      → LinesAnswered line s text first out from s' rest after at
      → (last : Carried) → last ≡ with_sequence (f s') before → sequence_in k last ≡ f s' → last.reader.phase ≡ phase.Rows k → Window last.times last.integrals
      → LinesPassed before text first out from last rest after at
  unfolding phase_first
  passed {S} k p f line alike s s' is a last moved is' p' w =
      let g : S → Rows = λ (x : S). At (f x) in
      let e : fed_from rows_line text (rows_in before) 0 first ≡ fed_as g (fed_from line text s 0 first) =
      ap (λ (q : Rows). fed_from rows_line text q 0 first) (at_phase_lem before (phase.Rows k) p ∙ ap (λ (q : Sequence). At q) is)
      ∙ from_as g line rows_line alike text s 0 first in
      let next : At (f s') ≡ (fed_from rows_line text (rows_in before) 0 first).next = ap g a.lines.state ∙ ap (λ (x : Fed Rows). x.next) (sym e) in
      record {
        named = ap phase_first p';
        window = w;
        within = a.within;
        fits = a.fits;
        same_phase = p' ∙ sym p;
        moved = moved ∙ ap (λ (q : Rows). with_rows q before) next;
        lines = record {
          state = at_phase_lem last (phase.Rows k) p' ∙ ap (λ (q : Sequence). At q) is' ∙ next;
          part = a.lines.part ∙ ap (λ (x : Fed Rows). reader_kept x.next x.part) (sym e);
          text = wrote_text _ _ _ (ap (λ (x : Fed Rows). x.said) (sym e)) a.lines.text;
        };
      }

  -- freeze and economizer rows leave the window as it was
  module _ (times' integrals' : List Float) (v : WindowLeft false times integrals times' integrals') where
    pub freeze_passed : r.phase ≡ phase.Rows kind.Freeze → (s : FreezeState) → LinesAnswered freeze_answered r.freeze text first out from s rest after at
        → LinesPassed before text first out from
        (carried (record { phase = r.phase; freeze = s; relief = r.relief; econ = r.econ }) times' integrals') rest after at
    unfolding reader_line
    freeze_passed p s a =
        passed kind.Freeze p Freeze freeze_answered (λ s l. refl) r.freeze s refl a _
        (λ i. carried (record { phase = p i; freeze = s; relief = r.relief; econ = r.econ }) ((v.kept refl).0 i) ((v.kept refl).1 i))
        refl p (record { times_long = v.times_long; integrals_long = v.integrals_long })

    pub econ_passed : r.phase ≡ phase.Rows kind.Econ → (s : EconomizerState) → LinesAnswered econ_answered r.econ text first out from s rest after at
        → LinesPassed before text first out from
        (carried (record { phase = r.phase; freeze = r.freeze; relief = r.relief; econ = s }) times' integrals') rest after at
    unfolding reader_line
    econ_passed p s a =
        passed kind.Econ p Econ econ_answered (λ s l. refl) r.econ s refl a _
        (λ i. carried (record { phase = p i; freeze = r.freeze; relief = r.relief; econ = s }) ((v.kept refl).0 i) ((v.kept refl).1 i))
        refl p (record { times_long = v.times_long; integrals_long = v.integrals_long })

  pub relief_passed : r.phase ≡ phase.Rows kind.Relief → (h : ReliefHeld) (times' integrals' : List Float) → WindowLeft true times integrals times' integrals'
      → LinesAnswered relief_answered (lent_state r.relief times integrals) text first out from (lent_state h times' integrals') rest after at
      → LinesPassed before text first out from
      (carried (record { phase = r.phase; freeze = r.freeze; relief = h; econ = r.econ }) times' integrals') rest after at
  unfolding reader_line
  relief_passed p h times' integrals' v a =
      passed kind.Relief p Relief relief_answered (λ s l. refl) (lent_state r.relief times integrals) (lent_state h times' integrals') refl a _
      (ap (λ (x : Phase). carried (record { phase = x; freeze = r.freeze; relief = h; econ = r.econ }) times' integrals') p) refl p
      (record { times_long = v.times_long; integrals_long = v.integrals_long })
