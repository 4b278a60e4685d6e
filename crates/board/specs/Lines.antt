-- Waiting lines of at most four rows, one for each of six units, and the unit that is served next (change request 14). Nothing here asks what a row is.
use Rattle.std.specs.Prelude.{ℕ, Bool, cond, eqb, ltb, leb, List, [], ◌∷◌, ◌++◌, length, take, drop, get_or, find, Option, None, Some, Ok, Err}
use Rattle.refusals.specs.declared.Refusal.TheVariants.{NoUnit, LineFull}
use Rattle.refusals.specs.Refusals.{Verdict}

-- the units
abbrev pub unit_numbers : List ℕ
unit_numbers = 0 ∷ 1 ∷ 2 ∷ 3 ∷ 4 ∷ 5 ∷ []

-- the units in turn: from the one that is asked first on, and round. As first, any number above 5 is as 0
abbrev pub in_turn : ℕ → List ℕ
in_turn first = drop first unit_numbers ++ take first unit_numbers

-- of what each unit has, that of unit u replaced
unfoldable pub with_unit : {A : Type 0} → (ℕ → A) → ℕ → A → ℕ → A
with_unit of u new v = cond (eqb v u) new (of v)

-- the rows that wait for each unit, the next to be served first
abbrev pub Lines : Type 0 → Type 0
Lines R = ℕ → List R

module _ {R : Type 0} where
  -- the lines that counts and places stand for: as many of a unit's places as are counted, from the first on; all of them where the count is larger
  unfoldable pub lines_of : List ℕ → List (List R) → Lines R
  lines_of counts rows u = take (get_or counts u 0) (get_or rows u [])

  -- ---- a row is offered
  -- what it is turned away with: 12 where no unit has the number; else 13 where four rows wait in the unit's line
  unfoldable pub offer_verdict : Lines R → ℕ → Verdict
  offer_verdict lines u = cond (ltb 5 u) (Err NoUnit) (cond (leb 4 (length (lines u))) (Err LineFull) (Ok tt))

  -- one that is taken joins the unit's line, behind the others; else no line changes
  abbrev pub lines_by : Verdict → Lines R → ℕ → R → Lines R
  lines_by (Ok tt) lines u row = with_unit lines u (lines u ++ (row ∷ []))
  lines_by (Err refusal) lines u row = lines

  unfoldable pub offer_row : Lines R → ℕ → R → Verdict × Lines R
  offer_row lines u row = let verdict = offer_verdict lines u in (verdict, lines_by verdict lines u row)

  -- ---- a row is served
  -- a row waits for unit u
  abbrev pub waits : Lines R → ℕ → Bool
  waits lines u = ltb 0 (length (lines u))

  -- the unit to be served: the first in turn for which a row waits
  unfoldable pub next_unit : Lines R → ℕ → Option ℕ
  next_unit lines first = find (waits lines) (in_turn first)

  -- the first row of its line leaves; where none waits no line changes
  abbrev pub leaves : Lines R → ℕ → List R → Option (ℕ × R) × Lines R
  leaves lines u [] = (None, lines)
  leaves lines u (row ∷ rest) = (Some (u, row), with_unit lines u rest)

  abbrev pub serve_by : Lines R → Option ℕ → Option (ℕ × R) × Lines R
  serve_by lines None = (None, lines)
  serve_by lines (Some u) = leaves lines u (lines u)

  unfoldable pub serve_row : Lines R → ℕ → Option (ℕ × R) × Lines R
  serve_row lines first = serve_by lines (next_unit lines first)
