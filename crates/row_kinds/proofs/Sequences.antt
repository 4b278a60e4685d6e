-- The sequences of the three kinds as one: long lines, room for an answer, and what a line leaves of the reader that the code carries. Assumes nothing.
use Prim.Native.Nat.{ℕ, ◌+◌, ◌*◌, ◌≤◌}
use mathlib.Core.Path.{◌≡◌, refl, sym, ap, ◌∙◌}
use mathlib.Core.List.{List}
use native.Mathlib.Omega.{arith}
use lib.ListN.{length, take, length-take}
use lib.Seq.{take_all}
use Rattle.columns.proofs.Lines.{length_status}
use Rattle.line_stream.specs.Lines.{whole}
use Rattle.line_stream.proofs.Cutting.{at_most_or_above}
use Rattle.line_stream.proofs.RowKinds.{kind_cut, kind_room}
use Rattle.freeze_lines.specs.Freeze.{freeze_kind}
use Rattle.freeze_lines.specs.Sized.{freeze_sized}
use Rattle.relief_lines.specs.Relief.{relief_kind}
use Rattle.relief_lines.specs.Sized.{relief_sized}
use Rattle.econ_lines.specs.Econ.{econ_kind}
use Rattle.econ_lines.specs.Sized.{econ_sized}
use Rattle.row_kinds.specs.declared.kind.Kind.{Kind}
use Rattle.row_kinds.specs.declared.kind.Kind.TheVariants as kind
use Rattle.row_kinds.specs.declared.kind.Phase.{Phase}
use Rattle.row_kinds.specs.declared.kind.Phase.TheVariants as phase
use Rattle.row_kinds.specs.Kind.{phase_after}
use Rattle.row_kinds.specs.Reader.{First, At, Stopped, first_line, answer_as, reader_line}
use Rattle.row_kinds.specs.Rows.{Sequence, Freeze, Relief, Econ, start_of, sequence_line, Rows, rows_start, rows_line, rows_output, rows_written}
use Rattle.row_kinds.specs.Rows.{Carried, sequence_in, at_phase, rows_in, with_phase, with_sequence, with_rows}
use Rattle.row_kinds.proofs.Words.{long_is_none}
use Rattle.row_kinds.proofs.Reading.{reader_cut, reader_any_cutting}

-- ---- long lines

phase_cut : (n : ℕ) (p : List ℕ) → 255 ≤ n → phase_after (take n p) ≡ phase_after p
phase_cut n p m =
    at_most_or_above (length p) n
    (λ h. ap phase_after (take_all n p h))
    (λ h.
    let c : length (take n p) ≡ n = length-take n p ∙ omega arith in
    long_is_none (take n p) (omega arith) ∙ sym (long_is_none p (omega arith)))

start_cut : (n : ℕ) (p : List ℕ) → 255 ≤ n → rows_start (take n p) ≡ rows_start p
start_cut n p h = ap start_of (phase_cut n p h)

sequence_cut : (q : Sequence) (n : ℕ) (p : List ℕ) → 255 ≤ n → sequence_line q (take n p) ≡ sequence_line q p
sequence_cut (Freeze s) n p h = ap (answer_as Freeze) (kind_cut freeze_kind freeze_sized s n p h)
sequence_cut (Relief s) n p h = ap (answer_as Relief) (kind_cut relief_kind relief_sized s n p h)
sequence_cut (Econ s) n p h = ap (answer_as Econ) (kind_cut econ_kind econ_sized s n p h)

pub rows_cut : (q : Rows) (n : ℕ) (p : List ℕ) → 255 ≤ n → rows_line q (take n p) ≡ rows_line q p
rows_cut = reader_cut rows_start sequence_line start_cut sequence_cut

-- any cutting of the input into chunks gives the output of the whole
pub rows_any_cutting : (chunks : List (List ℕ)) → rows_written chunks ≡ rows_output (whole chunks)
rows_any_cutting = reader_any_cutting rows_start sequence_line start_cut sequence_cut

-- ---- room for an answer

start_room : (p : Phase) (l : List ℕ) → length (first_line (start_of p)).said ≤ 22 * (length l + 1)
start_room phase.First l = omega (arith, length_status 6)
start_room (phase.Rows k) l = omega arith
start_room phase.Stopped l = omega (arith, length_status 6)

pub rows_room : (q : Rows) (l : List ℕ) → length (rows_line q l).said ≤ 22 * (length l + 1)
unfolding reader_line
rows_room First l = start_room (phase_after l) l
rows_room (At (Freeze s)) l = kind_room freeze_kind freeze_sized s l
rows_room (At (Relief s)) l = kind_room relief_kind relief_sized s l
rows_room (At (Econ s)) l = kind_room econ_kind econ_sized s l
rows_room Stopped l = omega arith

-- ---- what the code carries

-- it stands for the rows that it was given
pub rows_in_lem : (r : Rows) (c : Carried) → rows_in (with_rows r c) ≡ r
rows_in_lem First c = refl
rows_in_lem (At (Freeze s)) c = refl
rows_in_lem (At (Relief s)) c = refl
rows_in_lem (At (Econ s)) c = refl
rows_in_lem Stopped c = refl

-- at its own phase
pub at_phase_lem : (c : Carried) (p : Phase) → c.reader.phase ≡ p → rows_in c ≡ at_phase p c
at_phase_lem c p e = ap (λ (x : Phase). at_phase x c) e

pub own_phase : (c : Carried) (p : Phase) → c.reader.phase ≡ p → with_phase p c ≡ c
own_phase c p e = ap (λ (x : Phase). with_phase x c) (sym e)

-- a state of a kind in place of another
pub same_sequence : (k : Kind) (c : Carried) → with_sequence (sequence_in k c) c ≡ with_phase (phase.Rows k) c
same_sequence kind.Freeze c = refl
same_sequence kind.Relief c = refl
same_sequence kind.Econ c = refl

pub moved_on : (k : Kind) (c₀ c c' : Carried) → c ≡ with_sequence (sequence_in k c) c₀ → c' ≡ with_sequence (sequence_in k c') c → c' ≡ with_sequence (sequence_in k c') c₀
moved_on kind.Freeze c₀ c c' e f = f ∙ ap (λ (x : Carried). with_sequence (sequence_in kind.Freeze c') x) e
moved_on kind.Relief c₀ c c' e f = f ∙ ap (λ (x : Carried). with_sequence (sequence_in kind.Relief c') x) e
moved_on kind.Econ c₀ c c' e f = f ∙ ap (λ (x : Carried). with_sequence (sequence_in kind.Econ c') x) e
