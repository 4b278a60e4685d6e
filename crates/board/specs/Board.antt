-- A board: units with waiting lines, of which each tick serves one (change request 14). A unit is its answer to a row and its next state; nothing here asks what
-- unit, row and answer are.
use Rattle.std.specs.Prelude.{ℕ, suc, List, [], ◌∷◌, Option, None, Some, Ok, Err}
use Rattle.refusals.specs.declared.Refusal.{Refusal}
use Rattle.refusals.specs.Refusals.{Verdict}
use Rattle.board.specs.declared.types.Served.{Served}
use Rattle.board.specs.Lines.{with_unit, Lines, offer_row, serve_row}

-- the rows that wait for each unit, the units' states, and the number of the unit that is asked first at the next tick; any above 5 is as 0
pub record Board (R S : Type 0) : Type 0 where
  pub lines : Lines R
  pub units : ℕ → S
  pub turn : ℕ

-- a row is offered to a unit: it joins its line, or is turned away
unfoldable pub offer : {R S : Type 0} → Board R S → ℕ → R → Verdict × Board R S
offer b u row = let offered = offer_row b.lines u row in (offered.0, record { lines = offered.1; units = b.units; turn = b.turn })

-- what a command is: a row is offered to a unit, or the board ticks
pub data Command (R : Type 0) : Type 0 where
  Offer : ℕ → R → Command R
  Tick : Command R

-- what the board says to it: the row joins the unit's line, or is turned away; the unit is served, with its answer, or no row waits
pub data Event (R A : Type 0) : Type 0 where
  Joined : ℕ → R → Event R A
  Away : ℕ → Refusal → Event R A
  Answered : ℕ → A → Event R A
  Idle : Event R A

module _ {R S A : Type 0} (answer : S → R → A) (next : S → R → S) where
  -- the unit answers the row that has left its line, accepted or refused, and moves on; the unit numbered one above it, 0 after 5, is asked first at the next tick
  abbrev pub served_by : Option (ℕ × R) × Lines R → Board R S → Option (Served A) × Board R S
  served_by (None, lines) b = (None, b)
  served_by (Some (u, row), lines) b = (
    Some (record { unit = u; answer = answer (b.units u) row }),
    record { lines = lines; units = with_unit b.units u (next (b.units u) row); turn = suc u },
  )

  -- a tick: one row is served, where any waits; else nothing changes
  unfoldable pub tick : Board R S → Option (Served A) × Board R S
  tick b = served_by (serve_row b.lines b.turn) b

  -- ---- a command, and a list of them, the first one first
  abbrev pub offered : ℕ → R → Verdict → Event R A
  offered u row (Ok tt) = Joined u row
  offered u row (Err refusal) = Away u refusal

  abbrev pub ticked : Option (Served A) → Event R A
  ticked None = Idle
  ticked (Some served) = Answered served.unit served.answer

  unfoldable pub act : Board R S → Command R → Event R A × Board R S
  act b (Offer u row) = let done = offer b u row in (offered u row done.0, done.1)
  act b Tick = let done = tick b in (ticked done.0, done.1)

  -- the board after the commands, and what it said to them
  unfoldable pub after : Board R S → List (Command R) → Board R S
  after b [] = b
  after b (c ∷ cs) = after (act b c).1 cs

  unfoldable pub events : Board R S → List (Command R) → List (Event R A)
  events b [] = []
  events b (c ∷ cs) = (act b c).0 ∷ events (act b c).1 cs
