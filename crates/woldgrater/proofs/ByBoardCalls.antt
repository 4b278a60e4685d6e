-- Commands handed over call by call are answered as the board answers them, whatever words the board's memory holds at first. Assumes nothing.
use Prim.Native.Nat.{ℕ}
use mathlib.Core.Path.{◌≡◌, refl, ap, ◌∙◌}
use mathlib.Core.Bool.{Bool}
use mathlib.Core.List.{List, ◌∷◌, map}
use Rattle.std.specs.Prelude.{Option, None, Some, Ok, Err}
use Rattle.refusals.specs.Refusals.{Verdict}
use Rattle.rooftop.specs.declared.types.RooftopRow.{RooftopRow}
use Rattle.rooftop.specs.Step.{RooftopAnswer}
use Rattle.rooftop_words.specs.declared.rooftop_row.RooftopRowWords.{RooftopRowWords}
use Rattle.rooftop_words.specs.RooftopRow.{rooftop_row_of}
use Rattle.board.specs.declared.types.Served.{Served}
use Rattle.board.specs.Board.{offer, Command, Offer, Tick, offered, ticked, act, after, events}
use Rattle.board.specs.Rooftops.{RooftopBoard, board_start, unit_answer, unit_next, board_tick}
use Rattle.board.specs.Run.{board_after, board_said}
use Rattle.woldgrater.specs.declared.units.BoardWords.{BoardWords}
use Rattle.woldgrater.specs.declared.units.BoardServed.{BoardServed}
use Rattle.woldgrater.specs.Units.{board_in, offer_status, served_words}
use Rattle.woldgrater.specs.BoardCalls.{Given, Offered, Ticked, Calls, no_call, offer_call, tick_call, command_of, given_words}

-- what the calls give, and the board that they leave
pub record ByCalls (b : RooftopBoard) (cs : List (Command RooftopRowWords)) (given : List Given) (end : BoardWords) : Type 0 where
  pub gives : given ≡ map given_words (events unit_answer unit_next b (map command_of cs))
  pub leaves : board_in end ≡ after unit_answer unit_next b (map command_of cs)

offer_given : (u : ℕ) (row : RooftopRow) (verdict : Verdict) → Offered (offer_status verdict) ≡ given_words (offered unit_answer unit_next u row verdict)
unfolding offer_status
offer_given u row (Ok tt) = refl
offer_given u row (Err refusal) = refl

tick_given : (done : Option (Served RooftopAnswer)) → Ticked (served_words done) ≡ given_words (ticked unit_answer unit_next done)
tick_given None = refl
tick_given (Some served) = refl

pub board_by_calls : {w end : BoardWords} {cs : List (Command RooftopRowWords)} {given : List Given} → Calls w cs given end → ByCalls (board_in w) cs given end
unfolding events after act board_tick
board_by_calls no_call = record { gives = refl; leaves = refl }
board_by_calls {w} (offer_call {v = v} {end = end} {cs = cs} {given = given} u row status e more) = go (board_by_calls more)
  where
    go : ByCalls (board_in v) cs given end → ByCalls (board_in w) (Offer u row ∷ cs) (Offered status ∷ given) end
    go r =
        let done = offer (board_in w) u (rooftop_row_of row) in
        let left : board_in v ≡ done.1 = ap (λ (given : ℕ × RooftopBoard). given.1) e in
        record {
          gives = λ i.
              (ap (λ (given : ℕ × RooftopBoard). Offered given.0) e ∙ offer_given u (rooftop_row_of row) done.0) i
              ∷ (r.gives ∙ ap (λ (b : RooftopBoard). map given_words (events unit_answer unit_next b (map command_of cs))) left) i;
          leaves = r.leaves ∙ ap (λ (b : RooftopBoard). after unit_answer unit_next b (map command_of cs)) left;
        }
board_by_calls {w} (tick_call {v = v} {end = end} {cs = cs} {given = given} served e more) = go (board_by_calls more)
  where
    go : ByCalls (board_in v) cs given end → ByCalls (board_in w) (Tick ∷ cs) (Ticked served ∷ given) end
    go r =
        let done = board_tick (board_in w) in
        let left : board_in v ≡ done.1 = ap (λ (given : BoardServed × RooftopBoard). given.1) e in
        record {
          gives = λ i.
              (ap (λ (given : BoardServed × RooftopBoard). Ticked given.0) e ∙ tick_given done.0) i
              ∷ (r.gives ∙ ap (λ (b : RooftopBoard). map given_words (events unit_answer unit_next b (map command_of cs))) left) i;
          leaves = r.leaves ∙ ap (λ (b : RooftopBoard). after unit_answer unit_next b (map command_of cs)) left;
        }

-- from a start: what is given is what the board of rooftop units says
pub board_from_start : {w end : BoardWords} {cs : List (Command RooftopRowWords)} {given : List Given} (keeps_hour : List Bool) → board_in w ≡ board_start keeps_hour → Calls w cs given end
    → (given ≡ map given_words (board_said keeps_hour (map command_of cs))) × (board_in end ≡ board_after keeps_hour (map command_of cs))
board_from_start keeps_hour e calls = let r = board_by_calls calls in (rw e at r.gives, rw e at r.leaves)
