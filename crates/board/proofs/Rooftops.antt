-- The board of six rooftop units, from its start in these manners, after any list of commands (change request 14). Assumes nothing.
use Prim.Native.Nat.{ℕ, ◌*◌, ◌≤◌, ◌<◌}
use native.Mathlib.Omega.{arith}
use mathlib.Core.Path.{◌≡◌, refl, sym, ap, ◌∙◌}
use mathlib.Core.Bool.{Bool, false}
use mathlib.Core.List.{List, [], ◌∷◌, map, reverse, reverse_aux}
use lib.ListN.{length, get_or, take}
use Rattle.std.proofs.Math.Seq.{take-length}
use Rattle.std.specs.Prelude.{Ok, Err, fold}
use Rattle.logical.specs.Run.{run}
use Rattle.past.specs.Whole.{Told, NotTaken, Taken, told_by, state_after, accepted, read_all}
use Rattle.refusals.specs.Refusals.{Verdict}
use Rattle.rooftop.specs.declared.types.RooftopRow.{RooftopRow}
use Rattle.rooftop.specs.declared.types.RooftopState.{RooftopState}
use Rattle.economizer_controller.specs.Step.{economizer_signals}
use Rattle.relief_fan_group.specs.Step.{signals_at}
use Rattle.rooftop.specs.Step.{rooftop_start, economizer_handed, relief_handed, RooftopAnswer, rooftop_row}
use Rattle.rooftop.specs.Reading.{verdict_of, RooftopReading, stage_of, rooftop_reading}
use Rattle.rooftop.specs.Told.{rooftop_told_from, rooftop_told, rooftop_returned}
use Rattle.rooftop.proofs.Demand3.{rooftop_demand_3_from}
use Rattle.rooftop.proofs.Demand3 as rooftop
use Rattle.refusals.specs.declared.Refusal.TheVariants.{NoUnit, LineFull}
use Rattle.board.specs.Board.{Offer, Tick, Event, Joined, Away, Idle, act, after}
use Rattle.board.specs.Unit.{ticks, said, taken, answers, InOrder, own}
use Rattle.board.specs.Rooftops.{RooftopBoard, board_start, unit_answer, unit_next}
use Rattle.board.specs.Run.{Commands, board_after, board_said, board_says, stage_told}
use Rattle.board.proofs.Rounds as any_units

module _ (keeps_hour : List Bool) (cs : Commands) where
  -- ---- with no row waiting a tick changes nothing
  pub idle : ((u : ℕ) → u ≤ 5 → (board_after keeps_hour cs).lines u ≡ []) → act unit_answer unit_next (board_after keeps_hour cs) Tick ≡ (Idle, board_after keeps_hour cs)
  idle = any_units.idle unit_answer unit_next (board_after keeps_hour cs)

  module _ (u : ℕ) (below : u ≤ 5) where
    -- no line holds more than four
    pub at_most_4 : length ((board_after keeps_hour cs).lines u) ≤ 4
    at_most_4 = unfold board_start in any_units.at_most_4 unit_answer unit_next u below cs (board_start keeps_hour) (omega arith)

    -- a row that is the first of its line is served within six ticks, whatever is offered meanwhile: the unit's next answer is the one to it
    pub served_within_6 : (row : RooftopRow) (rest : List RooftopRow) → (board_after keeps_hour cs).lines u ≡ row ∷ rest
        → (ds : Commands) → 6 ≤ ticks ds → (more : List RooftopAnswer) × answers u (board_says keeps_hour cs ds) ≡ unit_answer ((board_after keeps_hour cs).units u) row ∷ more
    served_within_6 = any_units.served_within_6 unit_answer unit_next u below (board_after keeps_hour cs)

    -- the first n of the rows that wait for a unit are answered within six ticks each, in their order and as by the unit on its own, and so all of them within 24
    pub answered_within : (n : ℕ) → n ≤ length ((board_after keeps_hour cs).lines u) → (ds : Commands) → 6 * n ≤ ticks ds
        → take n (answers u (board_says keeps_hour cs ds)) ≡ run unit_answer unit_next ((board_after keeps_hour cs).units u) (take n ((board_after keeps_hour cs).lines u))
    answered_within = any_units.answered_within unit_answer unit_next u below (board_after keeps_hour cs)

    pub all_within_24 : (ds : Commands) → 24 ≤ ticks ds
        → take (length ((board_after keeps_hour cs).lines u)) (answers u (board_says keeps_hour cs ds))
        ≡ run unit_answer unit_next ((board_after keeps_hour cs).units u) ((board_after keeps_hour cs).lines u)
    all_within_24 ds t =
        answered_within (length ((board_after keeps_hour cs).lines u)) (omega arith) ds (omega (arith, t, at_most_4))
        ∙ ap (run unit_answer unit_next ((board_after keeps_hour cs).units u)) (take-length ((board_after keeps_hour cs).lines u))

    -- if no row joins the line meanwhile it is empty then: six ticks for each row that waits
    pub emptied_within : (ds : Commands) → 6 * length ((board_after keeps_hour cs).lines u) ≤ ticks ds → taken u (board_says keeps_hour cs ds) ≡ []
        → (after unit_answer unit_next (board_after keeps_hour cs) ds).lines u ≡ []
    emptied_within = any_units.emptied_within unit_answer unit_next u below (board_after keeps_hour cs)

    -- a unit answers the rows that joined its line one after the other, as it would alone from the same start, and stands where it would stand alone; the rest wait, in order
    pub in_order :
        InOrder unit_answer unit_next (rooftop_start (get_or keeps_hour u false)) (taken u (board_said keeps_hour cs)) (answers u (board_said keeps_hour cs))
        ((board_after keeps_hour cs).lines u) ((board_after keeps_hour cs).units u)
    in_order = unfold board_start in any_units.in_order unit_answer unit_next u below cs (board_start keeps_hour)

    -- a tick with a row waiting serves the first row of the first unit in turn that has one, and changes nothing else
    pub serves_one : (row : RooftopRow) (rest : List RooftopRow) → (board_after keeps_hour cs).lines u ≡ row ∷ rest
        → any_units.Serves unit_answer unit_next (board_after keeps_hour cs) (act unit_answer unit_next (board_after keeps_hour cs) Tick)
    serves_one = any_units.serves_one unit_answer unit_next (board_after keeps_hour cs) u below

    -- a row offered where four wait is turned away with 13, and one offered where fewer wait joins the line: the place of a row that has been served is used again
    pub away_where_full : (row : RooftopRow) → 4 ≤ length ((board_after keeps_hour cs).lines u)
        → act unit_answer unit_next (board_after keeps_hour cs) (Offer u row) ≡ (Away u LineFull, board_after keeps_hour cs)
    away_where_full row = any_units.away_where_full unit_answer unit_next (board_after keeps_hour cs) u row below

    pub joins_where_free : (row : RooftopRow) → length ((board_after keeps_hour cs).lines u) < 4 → (act unit_answer unit_next (board_after keeps_hour cs) (Offer u row)).0 ≡ Joined u row
    joins_where_free row h = ap (λ (done : Event RooftopRow RooftopAnswer × RooftopBoard). done.0) (any_units.joins_where_free unit_answer unit_next (board_after keeps_hour cs) u row below h)

  -- a row offered to a number above 5 is turned away with 12
  pub no_such_unit : (u : ℕ) (row : RooftopRow) → 5 < u → act unit_answer unit_next (board_after keeps_hour cs) (Offer u row) ≡ (Away u NoUnit, board_after keeps_hour cs)
  no_such_unit u row = any_units.no_such_unit unit_answer unit_next (board_after keeps_hour cs) u row

  -- until the first tick unit 0 is asked first
  pub unit_0_at_first : ticks cs ≡ 0 → (board_after keeps_hour cs).turn ≡ 0
  unit_0_at_first = unfold board_start in any_units.turn_at_first unit_answer unit_next cs (board_start keeps_hour)

-- ---- what other units are sent has no part in a unit's answers. Two runs, from starts that are alike for unit u:
module _ (keeps_hour keeps_hour' : List Bool) (cs cs' : Commands) (u : ℕ) (below : u ≤ 5) (alike : get_or keeps_hour u false ≡ get_or keeps_hour' u false) where
  -- with the same commands that concern it, the rows offered to it and the ticks that served it, the same is said to it
  pub by_own_commands : own unit_answer unit_next u (board_start keeps_hour) cs ≡ own unit_answer unit_next u (board_start keeps_hour') cs'
      → said u (board_said keeps_hour cs) ≡ said u (board_said keeps_hour' cs')
  by_own_commands =
      unfold board_start in any_units.by_own_commands unit_answer unit_next u below (board_start keeps_hour) (board_start keeps_hour') cs cs' refl (ap rooftop_start alike)

  -- with the same rows in its line, and as many ticks that served it, it gives the same answers
  pub by_rows_taken : taken u (board_said keeps_hour cs) ≡ taken u (board_said keeps_hour' cs') → length (answers u (board_said keeps_hour cs)) ≡ length (answers u (board_said keeps_hour' cs'))
      → answers u (board_said keeps_hour cs) ≡ answers u (board_said keeps_hour' cs')
  by_rows_taken = unfold board_start in any_units.by_rows_taken unit_answer unit_next u below (board_start keeps_hour) (board_start keeps_hour') cs cs' refl (ap rooftop_start alike)

-- ---- demand 3, for each unit
-- the rows of a run in their order, and the newest first
newest_first : (rows l : List RooftopRow) (s : RooftopState) → state_after rooftop_returned s (reverse_aux rows l) ≡ fold unit_next (state_after rooftop_returned s l) rows
unfolding state_after
newest_first [] l s = refl
newest_first (x ∷ rows) l s = newest_first rows (x ∷ l) s

module _ (keeps_hour : List Bool) (cs : Commands) (u : ℕ) where
  -- the unit's rows that have been served, in their order
  abbrev pub served_rows : List RooftopRow
  served_rows = take (length (answers u (board_said keeps_hour cs))) (taken u (board_said keeps_hour cs))

  -- what any row x tells that is served next: the refusal that the unit's rows alone tell, or stage, enable, delays, mean and pulses, read off the accepted ones and x
  pub told_reads : u ≤ 5 → (x : RooftopRow)
      → rooftop_told ((board_after keeps_hour cs).units u) x
      ≡ told_by (verdict_of (accepted verdict_of (reverse served_rows)) x) (rooftop_reading (get_or keeps_hour u false) (x ∷ accepted verdict_of (reverse served_rows)))
  unfolding state_after
  told_reads below x =
      let k = get_or keeps_hour u false in
      ap (λ (s : RooftopState). rooftop_told s x) ((in_order keeps_hour cs u below).stands ∙ sym (newest_first served_rows [] (rooftop_start k)))
      ∙ rooftop.told_reads k x (reverse served_rows)

-- ---- the stages of all answers
abbrev stage_of_told : Told RooftopReading → Told ℕ
stage_of_told (Taken y) = Taken y.stage
stage_of_told (NotTaken refusal) = NotTaken refusal

stages_told : (s : RooftopState) (rows : List RooftopRow) → map stage_told (run unit_answer unit_next s rows) ≡ map stage_of_told (run rooftop_told rooftop_returned s rows)
unfolding run
stages_told s [] = refl
stages_told s (x ∷ rows) = λ i. go (rooftop_row s x).answer i ∷ stages_told (unit_next s x) rows i
  where
    go : (a : RooftopAnswer) → stage_told a ≡ stage_of_told (rooftop_told_from a (economizer_signals s.economizer (economizer_handed s x)) (signals_at s.relief (relief_handed s x)))
    go (Ok c) = refl
    go (Err r) = refl

stages_read : (k : Bool) (l rows : List RooftopRow) → map stage_of_told (read_all verdict_of (rooftop_reading k) l rows) ≡ read_all verdict_of (stage_of k) l rows
unfolding read_all rooftop_reading
stages_read k l [] = refl
stages_read k l (x ∷ rows) = λ i. go (verdict_of (accepted verdict_of l) x) i ∷ stages_read k (x ∷ l) rows i
  where
    go : (v : Verdict) → stage_of_told (told_by v (rooftop_reading k (x ∷ accepted verdict_of l))) ≡ told_by v (stage_of k (x ∷ accepted verdict_of l))
    go (Ok tt) = refl
    go (Err r) = refl

-- for every list of commands and each unit: of its rows that have been served, in their order, each is told the refusal that these rows alone tell, or the stage that is read
-- off the accepted ones of them
pub stage_reads : (keeps_hour : List Bool) (cs : Commands) (u : ℕ) → u ≤ 5
    → map stage_told (answers u (board_said keeps_hour cs)) ≡ read_all verdict_of (stage_of (get_or keeps_hour u false)) [] (served_rows keeps_hour cs u)
stage_reads keeps_hour cs u below =
    let k = get_or keeps_hour u false in
    let rows = served_rows keeps_hour cs u in
    ap (map stage_told) (in_order keeps_hour cs u below).answered
    ∙ stages_told (rooftop_start k) rows
    ∙ ap (map stage_of_told) (rooftop_demand_3_from k rows)
    ∙ stages_read k [] rows
