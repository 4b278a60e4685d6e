-- Calls for a board one after another, and what they give (change request 14).
use Rattle.std.specs.Prelude.{ℕ, ◌≡◌, List, [], ◌∷◌, None, Some}
use Rattle.refusals.specs.Refusals.{refusal_number}
use Rattle.rooftop.specs.declared.types.RooftopRow.{RooftopRow}
use Rattle.rooftop.specs.Step.{RooftopAnswer}
use Rattle.board.specs.Board.{offer, Command, Offer, Tick, Event, Joined, Away, Answered, Idle}
use Rattle.board.specs.Rooftops.{board_tick}
use Rattle.rooftop_words.specs.declared.rooftop_row.RooftopRowWords.{RooftopRowWords}
use Rattle.rooftop_words.specs.RooftopRow.{rooftop_row_of}
use Rattle.woldgrater.specs.declared.units.BoardWords.{BoardWords}
use Rattle.woldgrater.specs.declared.units.BoardServed.{BoardServed}
use Rattle.woldgrater.specs.Units.{board_in, board_offered, served_words, board_ticked}

-- what a call gives: an offer its status, a tick what it served
pub data Given : Type 0 where
  Offered : ℕ → Given
  Ticked : BoardServed → Given

-- `Calls w cs given end`: the commands cs, called one by one on the memory w, give `given` and leave `end`; of each call no more is asked than its contract
pub data Calls : BoardWords → List (Command RooftopRowWords) → List Given → BoardWords → Type 0 where
  no_call : {w : BoardWords} → Calls w [] [] w
  offer_call : {w v end : BoardWords} {cs : List (Command RooftopRowWords)} {given : List Given} (u : ℕ) (row : RooftopRowWords) (status : ℕ)
      → (status, board_in v) ≡ board_offered (offer (board_in w) u (rooftop_row_of row)) → Calls v cs given end → Calls w (Offer u row ∷ cs) (Offered status ∷ given) end
  tick_call : {w v end : BoardWords} {cs : List (Command RooftopRowWords)} {given : List Given} (served : BoardServed)
      → (served, board_in v) ≡ board_ticked (board_tick (board_in w)) → Calls v cs given end → Calls w (Tick ∷ cs) (Ticked served ∷ given) end

-- the command that one in words is
abbrev pub command_of : Command RooftopRowWords → Command RooftopRow
command_of (Offer u row) = Offer u (rooftop_row_of row)
command_of Tick = Tick

-- what the board says, as the caller gets it
abbrev pub given_words : Event RooftopRow RooftopAnswer → Given
given_words (Joined u row) = Offered 0
given_words (Away u refusal) = Offered (refusal_number refusal)
given_words (Answered u answer) = Ticked (served_words (Some (record { unit = u; answer = answer })))
given_words Idle = Ticked (served_words None)
