-- The reader by its phase: the first line, a reader that has stopped, and the line that ends what is kept of it. Assumes nothing.
use Prim.Native.Nat.{ℕ, ◌+◌, ◌-◌, ◌*◌, ◌≤◌, min}
use mathlib.Core.Path.{◌≡◌, refl, sym, ap, ◌∙◌}
use mathlib.Core.List.{List, [], ◌++◌, append-nil}
use mathlib.Core.Bool.{true, false, true≢false}
use mathlib.Core.Logic.{◌⊎◌, inl, inr}
use native.Mathlib.Omega.{arith}
use lib.Ieee.{Float}
use lib.Dec.{ltb}
use lib.ListN.{length, take, drop, length-take, length-replicate, drop_of_length-le}
use lib.Seq.{drop-length, length-take-le, take-take}
use Rattle.reals.specs.Constants.{plus_zero}
use Rattle.moving_average.specs.State.{moving_average_new}
use Rattle.relief_fan_group.specs.Step.{relief_fresh}
use Rattle.columns.proofs.Scanning.{by_test}
use Rattle.columns.proofs.Writing.{wrote_text}
use Rattle.line_stream.specs.Lines.{Answer, Fed, feed, cut, onward, fed_from}
use Rattle.line_stream.proofs.Cutting.{at_most_or_above, feed_empty}
use Rattle.line_stream.proofs.Turns.{nothing_over, from_line}
use Rattle.row_kinds.specs.declared.kind.Kind.{Kind}
use Rattle.row_kinds.specs.declared.kind.Kind.TheVariants as kind
use Rattle.row_kinds.specs.declared.kind.Phase.{Phase}
use Rattle.row_kinds.specs.declared.kind.Phase.TheVariants as phase
use Rattle.row_kinds.specs.declared.types.RowReader.{RowReader}
use Rattle.row_kinds.specs.Kind.{phase_after}
use Rattle.row_kinds.specs.Reader.{First, At, Stopped, first_line, reader_kept, reader_line}
use Rattle.row_kinds.specs.Rows.{fresh_of, start_of, sequence_line, Rows, rows_start, rows_line, rows_feed, phase_first, phase_stopped, Carried, carried, at_phase, rows_in, with_phase, with_sequence, with_rows, fresh_at}
use Rattle.row_kinds.specs.Rows.{Window, Ended, LineAnswered, LinesPassed, FedTo}
use Rattle.row_kinds.proofs.Reading.{stopped_feed}
use Rattle.row_kinds.proofs.Sequences.{rows_cut, rows_room, rows_in_lem, at_phase_lem, own_phase, same_sequence, moved_on}

-- ---- the phases told apart

pub is_first : (p : Phase) → phase_first p ≡ true → p ≡ phase.First
unfolding phase_first
is_first phase.First h = refl
is_first (phase.Rows k) h = absurd (true≢false (sym h))
is_first phase.Stopped h = absurd (true≢false (sym h))

pub is_stopped : (p : Phase) → phase_stopped p ≡ true → p ≡ phase.Stopped
unfolding phase_stopped
is_stopped phase.First h = absurd (true≢false (sym h))
is_stopped (phase.Rows k) h = absurd (true≢false (sym h))
is_stopped phase.Stopped h = refl

pub not_first : {C : Type 0} (p : Phase) → phase_first p ≡ false → p ≡ phase.First → C
unfolding phase_first
not_first p h e = absurd (true≢false (sym (ap phase_first e) ∙ h))

-- what is carried stands for itself
pub same_rows : (c : Carried) → with_rows (rows_in c) c ≡ c
same_rows c = by c.reader.phase refl
  where
    by : (p : Phase) → c.reader.phase ≡ p → with_rows (at_phase p c) c ≡ c
    by phase.First e = own_phase c phase.First e
    by (phase.Rows k) e = same_sequence k c ∙ own_phase c (phase.Rows k) e
    by phase.Stopped e = own_phase c phase.Stopped e

-- one move after another, within a phase
pub both_moved : (before mid last : Carried) (r₁ r₂ : Rows) → mid ≡ with_rows r₁ before → rows_in mid ≡ r₁ → last ≡ with_rows r₂ mid → rows_in last ≡ r₂
    → last.reader.phase ≡ mid.reader.phase → last ≡ with_rows r₂ before
both_moved before mid last r₁ r₂ e₁ i₁ e₂ i₂ h = by mid.reader.phase refl ∙ ap (λ (x : Rows). with_rows x before) i₂
  where
    e : mid ≡ with_rows (rows_in mid) before
    e = e₁ ∙ ap (λ (x : Rows). with_rows x before) (sym i₁)

    f : last ≡ with_rows (rows_in last) mid
    f = e₂ ∙ ap (λ (x : Rows). with_rows x mid) (sym i₂)

    by : (p : Phase) → mid.reader.phase ≡ p → last ≡ with_rows (rows_in last) before
    by phase.First m =
        let q = at_phase_lem last phase.First (h ∙ m) in
        f ∙ ap (λ (x : Rows). with_rows x mid) q ∙ ap (with_phase phase.First) (e ∙ ap (λ (x : Rows). with_rows x before) (at_phase_lem mid phase.First m)) ∙ sym (ap (λ (x : Rows). with_rows x before) q)
    by (phase.Rows k) m =
        let q = at_phase_lem last (phase.Rows k) (h ∙ m) in
        moved_on k before mid last (e ∙ ap (λ (x : Rows). with_rows x before) (at_phase_lem mid (phase.Rows k) m)) (f ∙ ap (λ (x : Rows). with_rows x mid) q) ∙ sym (ap (λ (x : Rows). with_rows x before) q)
    by phase.Stopped m =
        let q = at_phase_lem last phase.Stopped (h ∙ m) in
        f ∙ ap (λ (x : Rows). with_rows x mid) q ∙ ap (with_phase phase.Stopped) (e ∙ ap (λ (x : Rows). with_rows x before) (at_phase_lem mid phase.Stopped m)) ∙ sym (ap (λ (x : Rows). with_rows x before) q)

-- 256 bytes of a line are kept but where the reader has stopped
pub not_stopped : (c : Carried) → phase_stopped c.reader.phase ≡ false → (p : List ℕ) → cut p ≡ reader_kept (rows_in c) p
unfolding phase_stopped
not_stopped c h p = by c.reader.phase h
  where
    by : (x : Phase) → phase_stopped x ≡ false → cut p ≡ reader_kept (at_phase x c) p
    by phase.First e = refl
    by (phase.Rows k) e = refl
    by phase.Stopped e = absurd (true≢false e)

-- ---- the first line

pub fresh_first : (reader : RowReader) (times integrals : List Float) → reader ≡ fresh_at phase.First → rows_in (carried reader times integrals) ≡ First
unfolding fresh_at
fresh_first reader times integrals e = at_phase_lem (carried reader times integrals) phase.First (ap (λ (x : RowReader). x.phase) e)

window_fresh : (k : Kind) (c : Carried) → Window c.times c.integrals → Window (with_sequence (fresh_of k) c).times (with_sequence (fresh_of k) c).integrals
unfolding relief_fresh moving_average_new
window_fresh kind.Freeze c w = w
window_fresh kind.Relief c w = record { times_long = length-replicate 512 plus_zero; integrals_long = length-replicate 512 plus_zero }
window_fresh kind.Econ c w = w

named_fresh : (k : Kind) (c : Carried) → phase_first (with_sequence (fresh_of k) c).reader.phase ≡ false
unfolding phase_first
named_fresh kind.Freeze c = refl
named_fresh kind.Relief c = refl
named_fresh kind.Econ c = refl

module _ (reader : RowReader) (times integrals : List Float) (times_long : length times ≡ 512) (integrals_long : length integrals ≡ 512)
    (first : phase_first reader.phase ≡ true) (line : List ℕ) (p : Phase) (is : p ≡ phase_after line) where
  abbrev before : Carried
  before = carried reader times integrals

  w : Window times integrals
  w = record { times_long = times_long; integrals_long = integrals_long }

  line_is : (p' : Phase) → p ≡ p' → rows_line (rows_in before) line ≡ first_line (start_of p')
  unfolding reader_line
  line_is p' e = ap (λ (q : Rows). rows_line q line) (at_phase_lem before phase.First (is_first _ first)) ∙ ap (λ (x : Phase). first_line (start_of x)) (sym is ∙ e)

  -- a kind is named
  pub rows_begin : (k : Kind) → p ≡ phase.Rows k → (next : Carried) → next ≡ with_sequence (fresh_of k) before → (out : List ℕ) → LineAnswered before line out next out 0
  rows_begin k e next m out =
      let a = line_is (phase.Rows k) e in
      record {
        named = ap (λ (c : Carried). phase_first c.reader.phase) m ∙ named_fresh k before;
        window =
            let f = window_fresh k before w in
            record { times_long = ap (λ (c : Carried). length c.times) m ∙ f.times_long; integrals_long = ap (λ (c : Carried). length c.integrals) m ∙ f.integrals_long };
        moved = m ∙ ap (λ (x : Answer Rows). with_rows x.next before) (sym a);
        answered = record {
          state = ap rows_in m ∙ rows_in_lem (At (fresh_of k)) before ∙ ap (λ (x : Answer Rows). x.next) (sym a);
          text = wrote_text [] _ 0 (ap (λ (x : Answer Rows). x.said) (sym a)) (record { bytes = refl; long = refl; place = refl });
        };
      }

  -- none is
  none_at : (p ≡ phase.First) ⊎ (p ≡ phase.Stopped) → rows_line (rows_in before) line ≡ first_line (start_of phase.Stopped)
  none_at (inl e) = line_is phase.First e
  none_at (inr e) = line_is phase.Stopped e

  pub none_begins : (p ≡ phase.First) ⊎ (p ≡ phase.Stopped) → (out : List ℕ) (next : RowReader) (after : List ℕ) (at : ℕ) → Ended reader out next after at
      → LineAnswered before line out (carried next times integrals) after at
  unfolding phase_first
  none_begins e out next after at s =
      let a = none_at e in
      let m = s.stopped times integrals in
      record {
        named = ap (λ (c : Carried). phase_first c.reader.phase) m;
        window = w;
        moved = m ∙ ap (λ (x : Answer Rows). with_rows x.next before) (sym a);
        answered = record {
          state = ap rows_in m ∙ ap (λ (x : Answer Rows). x.next) (sym a);
          text = wrote_text _ _ 22 (ap (λ (x : Answer Rows). x.said) (sym a)) s.said;
        };
      }

-- ---- a reader that has stopped

stopped_from : (text : List ℕ) (i j : ℕ) → ((fed_from rows_line text Stopped i j).next ≡ Stopped) × ((fed_from rows_line text Stopped i j).said ≡ [])
unfolding fed_from reader_line
stopped_from text i j =
    by_test (λ (f : Fed Rows). (f.next ≡ Stopped) × (f.said ≡ [])) (ltb j (length text)) _ _
    (λ _. let e = stopped_feed rows_start sequence_line [] (drop (j + 1) text) in (ap (λ (f : Fed Rows). f.next) e, ap (λ (f : Fed Rows). f.said) e))
    (λ _. (refl, refl))

module _ (before : Carried) (is : before.reader.phase ≡ phase.Stopped) (w : Window before.times before.integrals) where
  at_stop : rows_in before ≡ Stopped
  at_stop = at_phase_lem before phase.Stopped is

  pub stopped_passes : phase_first before.reader.phase ≡ false → (text : List ℕ) (first : ℕ) (out : List ℕ) (at : ℕ)
      → LinesPassed before text first out at before (length text) out at
  stopped_passes n text first out at =
      let f = stopped_from text 0 first in
      let q = ap (λ (x : Rows). fed_from rows_line text x 0 first) at_stop in
      let next = ap (λ (x : Fed Rows). x.next) q ∙ f.0 in
      record {
        named = n;
        window = w;
        within = omega arith;
        fits = omega arith;
        same_phase = refl;
        moved = sym (ap (λ (x : Rows). with_rows x before) next ∙ own_phase before phase.Stopped is);
        lines = record {
          state = at_stop ∙ sym next;
          part = ap cut (drop-length text) ∙ sym (ap (λ (x : Rows). reader_kept x (fed_from rows_line text (rows_in before) 0 first).part) next);
          text = wrote_text [] _ 0 (sym (ap (λ (x : Fed Rows). x.said) q ∙ f.1)) (record { bytes = nothing_over out at; long = refl; place = omega arith });
        };
      }

  pub stopped_fed : (part chunk out line : List ℕ) → FedTo before part chunk out before line 0 out 0
  stopped_fed part chunk out line =
      let f = ap (λ (x : Rows). rows_feed x part chunk) at_stop ∙ stopped_feed rows_start sequence_line part chunk in
      let next = ap (λ (x : Fed Rows). x.next) f in
      record {
        window = w;
        moved = sym (ap (λ (x : Rows). with_rows x before) next ∙ own_phase before phase.Stopped is);
        fed = record {
          state = at_stop ∙ sym next;
          part = sym (ap (λ (x : Rows). reader_kept x (rows_feed (rows_in before) part chunk).part) next);
          part_fits = omega arith;
          said = sym (ap (λ (x : Fed Rows). x.said) f);
          said_fits = omega arith;
          rest = refl;
        };
      }

-- ---- the line that ends what is kept of it

pub kept_answered : (before : Carried) (line : List ℕ) (len n : ℕ) → length line ≡ 256 → len ≤ 256 → n ≡ min len 255 → (out : List ℕ) (next : Carried)
    (rest : ℕ) (out' : List ℕ) (at : ℕ) → LinesPassed before (take (n + 1) line) n out 0 next rest out' at → LineAnswered before (take len line) out next out' at
kept_answered before line len n l h e out next rest out' at p =
    let q : Rows = rows_in before in
    let t : length (take (n + 1) line) ≡ n + 1 = length-take-le (n + 1) line (omega arith) in
    let a : Answer Rows = rows_line q (take len line) in
    let g : fed_from rows_line (take (n + 1) line) q 0 n ≡ record { next = a.next; part = []; said = a.said } =
    from_line rows_line (take (n + 1) line) q 0 n (omega arith)
    ∙ ap (λ (x : ℕ). onward rows_line q (take x (take (n + 1) line)) (drop (n + 1) (take (n + 1) line))) zero
    ∙ ap (λ (x : List ℕ). onward rows_line q (take n (take (n + 1) line)) x) none
    ∙ ap (λ (x : List ℕ). onward rows_line q x []) (take-take n (n + 1) line (omega arith))
    ∙ ap (λ (x : Answer Rows). record { next = (feed rows_line x.next [] []).next; part = (feed rows_line x.next [] []).part; said = x.said ++ (feed rows_line x.next [] []).said }) same
    ∙ ap (λ (x : Fed Rows). record { next = x.next; part = x.part; said = a.said ++ x.said }) (feed_empty rows_line a.next [])
    ∙ ap (λ (x : List ℕ). record { next = a.next; part = []; said = x }) (append-nil a.said) in
    record {
      named = p.named;
      window = p.window;
      moved = p.moved ∙ ap (λ (x : Fed Rows). with_rows x.next before) g;
      answered = record {
        state = p.lines.state ∙ ap (λ (x : Fed Rows). x.next) g;
        text = wrote_text _ _ _ (ap (λ (x : Fed Rows). x.said) g) p.lines.text;
      };
    }
  where
    zero : n - 0 ≡ n
    zero = omega arith

    none : drop (n + 1) (take (n + 1) line) ≡ []
    none =
        let t : length (take (n + 1) line) ≤ n + 1 = omega (arith, length-take (n + 1) line) in
        drop_of_length-le (take (n + 1) line) t

    same : rows_line (rows_in before) (take n line) ≡ rows_line (rows_in before) (take len line)
    same =
        at_most_or_above len 255
        (λ m. let d : n ≡ len = omega arith in ap (λ (x : ℕ). rows_line (rows_in before) (take x line)) d)
        (λ m.
        let d : n ≡ 255 = omega arith in
        ap (λ (x : ℕ). rows_line (rows_in before) (take x line)) d
        ∙ ap (λ (x : List ℕ). rows_line (rows_in before) x) (sym (take-take 255 len line (omega arith)))
        ∙ rows_cut (rows_in before) 255 (take len line) (omega arith))

-- its answer takes 22 bytes at most for each byte and for the newline
pub line_fits : (before : Carried) (line : List ℕ) (len : ℕ) (out : List ℕ) (next : Carried) (out' : List ℕ) (at : ℕ)
    → LineAnswered before (take len line) out next out' at → at ≤ 22 * (len + 1)
line_fits before line len out next out' at a = omega (arith, a.answered.text.place, rows_room (rows_in before) (take len line), length-take len line)
