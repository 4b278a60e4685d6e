-- Refusals by their numbers: 1, 2 and 3 are those of all sequences, 4 and 11 the relief fan group's. 5 is that of a line that is badly formed, 6 of a first line
-- that names no kind of rows, 10 of a row that is written, 12 and 13 those of a row that is offered to a board. The first one that fits a row is given, in the order
-- 1, 2, 3, 11, 4.
use Rattle.std.specs.Prelude.{ℕ, Bool, not, cond, Float, Option, Result, Ok, Err}
use Rattle.reals.specs.Sign.{is_sign_negative}
use Rattle.reals.specs.Seen.{seen_above}
use Rattle.refusals.specs.declared.Refusal.{Refusal}
use Rattle.refusals.specs.declared.Refusal.TheVariants.{NotFinite, NegativeTime, FallingTime, AlarmOutOfRange, WindowFull, BadlyFormed, NoKind, NoRoom, NoUnit, LineFull}

-- a row is accepted, or refused
abbrev pub Verdict : Type 0
Verdict = Result (Unit {0}) Refusal

-- the papers' number of each refusal
unfoldable pub refusal_number : Refusal → ℕ
refusal_number NotFinite = 1
refusal_number NegativeTime = 2
refusal_number FallingTime = 3
refusal_number AlarmOutOfRange = 11
refusal_number WindowFull = 4
refusal_number BadlyFormed = 5
refusal_number NoKind = 6
refusal_number NoRoom = 10
refusal_number NoUnit = 12
refusal_number LineFull = 13

-- 1 if a number is not finite; 2 if the time's sign bit is set, so −0.0 too; 3 if the time falls
abbrev pub judge_by : Bool → Float → Bool → Verdict
judge_by finite time falling = cond (not finite) (Err NotFinite) (cond (is_sign_negative time) (Err NegativeTime) (cond falling (Err FallingTime) (Ok tt)))

-- it falls if it is below the last accepted time. Equal times are taken
unfoldable pub judge : Bool → Float → Option Float → Verdict
judge finite time last = judge_by finite time (seen_above last time)

-- the verdict with one refusal more: it is given where it fits and none of those before it does
unfoldable pub verdict_or_refused : Verdict → Bool → Refusal → Verdict
verdict_or_refused (Ok tt) fits refusal = cond fits (Err refusal) (Ok tt)
verdict_or_refused (Err first) fits refusal = Err first
