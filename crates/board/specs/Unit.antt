-- What a run of a board has of one unit (change request 14): what the board says to it, its rows and its answers, and the commands that concern it.
use Rattle.std.specs.Prelude.{ℕ, suc, ◌≡◌, Bool, false, cond, eqb, leb, List, [], ◌∷◌, ◌++◌, length, take, drop, filter, fold}
use Rattle.refusals.specs.declared.Refusal.TheVariants.{LineFull}
use Rattle.logical.specs.Run.{run}
use Rattle.board.specs.Board.{Board, Command, Offer, Tick, Event, Joined, Away, Answered, Idle, act}

-- how many of the commands are ticks
unfoldable pub ticks : {R : Type 0} → List (Command R) → ℕ
ticks [] = 0
ticks (Offer u row ∷ cs) = ticks cs
ticks (Tick ∷ cs) = suc (ticks cs)

module _ {R A : Type 0} where
  -- what the board says is said to unit u
  abbrev pub names : ℕ → Event R A → Bool
  names u (Joined v row) = eqb v u
  names u (Away v refusal) = eqb v u
  names u (Answered v a) = eqb v u
  names u Idle = false

  -- all that is said to it, in order
  abbrev pub said : ℕ → List (Event R A) → List (Event R A)
  said u es = filter (names u) es

  -- of what is said, the rows taken and the answers, each in order
  abbrev pub rows_taken : List (Event R A) → List R
  rows_taken [] = []
  rows_taken (Joined v row ∷ es) = row ∷ rows_taken es
  rows_taken (Away v refusal ∷ es) = rows_taken es
  rows_taken (Answered v a ∷ es) = rows_taken es
  rows_taken (Idle ∷ es) = rows_taken es

  abbrev pub answers_given : List (Event R A) → List A
  answers_given [] = []
  answers_given (Joined v row ∷ es) = answers_given es
  answers_given (Away v refusal ∷ es) = answers_given es
  answers_given (Answered v a ∷ es) = a ∷ answers_given es
  answers_given (Idle ∷ es) = answers_given es

  -- the rows taken into the line of unit u, and its answers
  abbrev pub taken : ℕ → List (Event R A) → List R
  taken u es = rows_taken (said u es)

  abbrev pub answers : ℕ → List (Event R A) → List A
  answers u es = answers_given (said u es)

module _ {R S A : Type 0} (answer : S → R → A) (next : S → R → S) where
  -- the rows of a unit in their order, its answers, and what waits and where it stands: as many of the rows as there are answers have those that the unit on its own gives,
  -- from this state on; the others wait; and the unit stands where it does on its own
  pub record InOrder (state : S) (rows : List R) (given : List A) (waiting : List R) (stood : S) : Type 0 where
    pub answered : given ≡ run answer next state (take (length given) rows)
    pub waits : waiting ≡ drop (length given) rows
    pub stands : stood ≡ fold next state (take (length given) rows)

  -- the commands that concern unit u: rows that are offered to it, and the ticks that serve it
  unfoldable pub own : ℕ → Board R S → List (Command R) → List (Command R)
  own u b [] = []
  own u b (c ∷ cs) = let done = act answer next b c in cond (names u done.0) (c ∷ own u done.1 cs) (own u done.1 cs)

  -- unit u by itself, with a waiting line of its own: what is said to it at such commands. Every offer among them is to u, and with no row waiting no tick serves it
  unfoldable pub alone : ℕ → List R → S → List (Command R) → List (Event R A)
  alone u line s [] = []
  alone u line s (Offer v row ∷ cs) = cond (leb 4 (length line)) (Away u LineFull ∷ alone u line s cs) (Joined u row ∷ alone u (line ++ (row ∷ [])) s cs)
  alone u [] s (Tick ∷ cs) = alone u [] s cs
  alone u (row ∷ rest) s (Tick ∷ cs) = Answered u (answer s row) ∷ alone u rest (next s row) cs
