-- Whole lists of rows, refused ones included: what the list alone tells at each place. What a run gives there: `run` of logical.
use Rattle.std.specs.Prelude.{List, [], ◌∷◌, Ok, Err}
use Rattle.refusals.specs.declared.Refusal.{Refusal}
use Rattle.refusals.specs.Refusals.{Verdict}

-- what a row's answer tells: a refusal, or a value (the stage; enable and delays; the mean and the pulses) of an accepted row
pub data Told (Y : Type 0) : Type 0 where
  NotTaken : Refusal → Told Y
  Taken : Y → Told Y

-- what a verdict and a value make of a row
abbrev pub told_by : {Y : Type 0} → Verdict → Y → Told Y
told_by (Ok tt) v = Taken v
told_by (Err r) v = NotTaken r

-- an accepted row changes the state, a refused one hands the old state back
abbrev pub next_by : {S : Type 0} → Verdict → S → S → S
next_by (Ok tt) next old = next
next_by (Err r) next old = old

-- the state that a run hands to the row after the rows l, refused ones too, the newest first
unfoldable pub state_after : {S R : Type 0} → (S → R → S) → S → List R → S
state_after next s [] = s
state_after next s (x ∷ l) = next (state_after next s l) x

-- `verdict h x` is the refusal, if any, that fits row x after the accepted rows h
module _ {R : Type 0} (verdict : List R → R → Verdict) where
  -- the accepted rows of all rows up to here, the newest first: a row is accepted exactly when no refusal fits it
  unfoldable pub accepted : List R → List R
  accepted [] = []
  accepted (x ∷ l) = next_by (verdict (accepted l) x) (x ∷ accepted l) (accepted l)

  -- what the list alone tells at its newest row, where `read` reads the accepted rows up to there
  abbrev pub read_at : {Y : Type 0} → (List R → Y) → R → List R → Told Y
  read_at read x l = told_by (verdict (accepted l) x) (read (x ∷ accepted l))

  -- the same at every place of a list, in order
  unfoldable pub read_all : {Y : Type 0} → (List R → Y) → List R → List R → List (Told Y)
  read_all read l [] = []
  read_all read l (x ∷ rows) = read_at read x l ∷ read_all read (x ∷ l) rows
