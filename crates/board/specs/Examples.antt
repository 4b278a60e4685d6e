-- Two runs for one unit, of rows that are numbers: the unit answers each row with itself.
use Rattle.std.specs.Prelude.{ℕ, cond, eqb, List, [], ◌∷◌}
use Rattle.board.specs.Board.{Board, Command, Offer, Tick, Event, events}

abbrev pub itself : Unit {0} → ℕ → ℕ
itself s row = row

abbrev pub as_before : Unit {0} → ℕ → Unit {0}
as_before s row = s

abbrev pub empty_board : Board ℕ (Unit {0})
empty_board = record { lines = λ u. []; units = λ u. tt; turn = 0 }

abbrev pub said_to : List (Command ℕ) → List (Event ℕ ℕ)
said_to cs = events itself as_before empty_board cs

-- six rows are offered to unit 0, and five ticks serve it: the fifth row finds the line full, or the sixth does
abbrev pub fifth_away : List (Command ℕ)
fifth_away = Offer 0 1 ∷ Offer 0 2 ∷ Offer 0 3 ∷ Offer 0 4 ∷ Offer 0 5 ∷ Tick ∷ Offer 0 6 ∷ Tick ∷ Tick ∷ Tick ∷ Tick ∷ []

abbrev pub sixth_away : List (Command ℕ)
sixth_away = Offer 0 1 ∷ Tick ∷ Offer 0 2 ∷ Offer 0 3 ∷ Offer 0 4 ∷ Offer 0 5 ∷ Offer 0 6 ∷ Tick ∷ Tick ∷ Tick ∷ Tick ∷ []

-- the rows offered to unit u, in order
abbrev pub rows_offered : ℕ → List (Command ℕ) → List ℕ
rows_offered u [] = []
rows_offered u (Offer v row ∷ cs) = cond (eqb v u) (row ∷ rows_offered u cs) (rows_offered u cs)
rows_offered u (Tick ∷ cs) = rows_offered u cs
