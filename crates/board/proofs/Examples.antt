-- The rows offered to a unit, and the number of ticks that served it, do not tell its answers: these runs agree on both. So the theorems on two runs ask for the rows taken, or
-- for offers and ticks in their order (Rooftops.antt). Assumes nothing.
use mathlib.Core.Path.{◌≡◌, refl}
use lib.ListN.{length}
use mathlib.Core.List.{[], ◌∷◌}
use Rattle.board.specs.Lines.{with_unit, offer_row, offer_verdict, serve_row, next_unit}
use Rattle.board.specs.Board.{offer, tick, act, events}
use Rattle.board.specs.Unit.{answers}
use Rattle.board.specs.Examples.{said_to, fifth_away, sixth_away, rows_offered}

pub fifth_is_not_answered : answers 0 (said_to fifth_away) ≡ 1 ∷ 2 ∷ 3 ∷ 4 ∷ 6 ∷ []
unfolding events act offer tick offer_row offer_verdict serve_row next_unit with_unit
fifth_is_not_answered = refl

pub sixth_is_not_answered : answers 0 (said_to sixth_away) ≡ 1 ∷ 2 ∷ 3 ∷ 4 ∷ 5 ∷ []
unfolding events act offer tick offer_row offer_verdict serve_row next_unit with_unit
sixth_is_not_answered = refl

pub same_rows_offered : rows_offered 0 fifth_away ≡ rows_offered 0 sixth_away
same_rows_offered = refl

pub five_ticks_serve_each : length (answers 0 (said_to fifth_away)) ≡ length (answers 0 (said_to sixth_away))
unfolding events act offer tick offer_row offer_verdict serve_row next_unit with_unit
five_ticks_serve_each = refl
