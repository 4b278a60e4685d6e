-- The board that words stand for: a start, an offer and a tick on words, from what becomes of the lines and of the unit that is served. Assumes nothing.
use Prim.Native.Nat.{ℕ, suc, ◌+◌, ◌<◌, ◌≤◌}
use native.Mathlib.Omega.{arith}
use mathlib.Core.Path.{◌≡◌, refl, sym, ap, ◌∙◌}
use mathlib.Core.Bool.{Bool, true, false, cond}
use mathlib.Core.List.{List, [], map}
use lib.Dec.{eqb, ltb}
use lib.Ieee.{Float}
use lib.ListN.{length, get_or, set, replicate, take, get_or-map}
use Rattle.std.proofs.lemmas.Bool.{eqb-true, eqb-false, ltb-true, ltb-false}
use Rattle.std.proofs.lemmas.List.{get_or_default, get_or_past}
use Rattle.std.specs.Prelude.{Option, None, Some}
use Rattle.refusals.specs.Refusals.{Verdict}
use Rattle.block_words.specs.Flags.{word_flag}
use Rattle.rooftop.specs.declared.types.RooftopHeld.{RooftopHeld}
use Rattle.rooftop.specs.declared.types.RooftopRow.{RooftopRow}
use Rattle.rooftop.specs.declared.types.RooftopState.{RooftopState}
use Rattle.rooftop.specs.Lent.{lent_state, LentStep, lent_step}
use Rattle.rooftop.specs.Step.{rooftop_start, rooftop_fresh, RooftopStep, rooftop_row}
use Rattle.board.specs.Lines.{with_unit, Lines, lines_of, offer_row, serve_row}
use Rattle.board.specs.Board.{offer, served_by, tick}
use Rattle.board.specs.Rooftops.{board_start, unit_answer, unit_next, board_tick}
use Rattle.board.proofs.Mapped.{mapped, mapped_served, offer_mapped, serve_mapped}
use Rattle.board.proofs.Places.{set_reads}
use Rattle.board.proofs.Steps.{none_leaves, none_counted}
use Rattle.rooftop_words.specs.declared.rooftop_commands.RooftopCommandsWords.{RooftopCommandsWords}
use Rattle.rooftop_words.specs.declared.rooftop_row.RooftopRowWords.{RooftopRowWords}
use Rattle.rooftop_words.specs.declared.rooftop_state.RooftopWords.{RooftopWords}
use Rattle.rooftop_words.specs.Rooftop.{rooftop_words, rooftop_of}
use Rattle.rooftop_words.specs.RooftopCommands.{rooftop_commands_zero}
use Rattle.rooftop_words.specs.RooftopRow.{rooftop_row_of}
use Rattle.rooftop_words.proofs.Back as words_of
use Rattle.woldgrater.specs.declared.answered.Answered.{Answered}
use Rattle.woldgrater.specs.declared.units.BoardWords.{BoardWords}
use Rattle.woldgrater.specs.Memory.{memory}
use Rattle.woldgrater.specs.Rooftop.{RooftopMemory, rooftop_memory, rooftop_in, rooftop_answered}
use Rattle.woldgrater.proofs.RooftopCalls.{rooftop_back}
use Rattle.woldgrater.specs.Units.{fresh_memory, unit_memory, units_in, board_in, offer_status, board_offered, served_words, board_ticked}

module _ (units : List RooftopWords) (times integrals : List (List Float)) where
  -- the memory of one unit set anew
  module _ (u : ℕ) (words : RooftopWords) (t n : List Float) (h : u < length units) (k : u < length times) (l : u < length integrals) where
    set_memory : (v : ℕ)
        → unit_memory (set units u words) (set times u t) (set integrals u n) v ≡ with_unit (unit_memory units times integrals) u (memory words t n) v
    unfolding with_unit
    set_memory v =
        (λ i.
        memory (set_reads units u words fresh_memory.words h v i) (set_reads times u t fresh_memory.times k v i)
        (set_reads integrals u n fresh_memory.integrals l v i))
        ∙ go (eqb v u)
      where
        m : RooftopMemory
        m = unit_memory units times integrals v

        go : (q : Bool) → memory (cond q words m.words) (cond q t m.times) (cond q n m.integrals) ≡ cond q (memory words t n) m
        go true = refl
        go false = refl

    -- the units that are stood for: this one is what its memory stands for, the others are as they were
    set_unit : (s : RooftopState) → rooftop_in (memory words t n) ≡ s
        → (v : ℕ) → units_in (set units u words) (set times u t) (set integrals u n) v ≡ with_unit (units_in units times integrals) u s v
    unfolding with_unit
    set_unit s e v = ap rooftop_in (set_memory v) ∙ go (eqb v u)
      where
        go : (q : Bool) → rooftop_in (cond q (memory words t n) (unit_memory units times integrals v)) ≡ cond q s (units_in units times integrals v)
        go true = e
        go false = refl

    -- where the units before this one hold what is told, and so does this one, one more does
    pub one_more : (of : ℕ → RooftopMemory) → ((v : ℕ) → v < u → unit_memory units times integrals v ≡ of v) → memory words t n ≡ of u
        → (v : ℕ) → v < u + 1 → unit_memory (set units u words) (set times u t) (set integrals u n) v ≡ of v
    unfolding with_unit
    one_more of before here v below = set_memory v ∙ go (eqb v u) refl
      where
        go : (q : Bool) → eqb v u ≡ q → cond q (memory words t n) (unit_memory units times integrals v) ≡ of v
        go true e = here ∙ ap of (sym (eqb-true v u e))
        go false e = before v (let other = eqb-false v u e in omega arith)

  -- ---- a start
  module _ (keeps_hour : List ℕ) where
    -- no unit is above 5: what stands there is fresh
    pub all_started : length keeps_hour ≡ 6 → length units ≡ 6 → length times ≡ 6 → length integrals ≡ 6
        → ((v : ℕ) → v < 6 → unit_memory units times integrals v ≡ rooftop_memory (rooftop_start (word_flag (get_or keeps_hour v 0))))
        → (v : ℕ) → unit_memory units times integrals v ≡ rooftop_memory (rooftop_start (word_flag (get_or keeps_hour v 0)))
    unfolding rooftop_fresh word_flag
    all_started k l m n starts v = go (ltb v 6) refl
      where
        go : (q : Bool) → ltb v 6 ≡ q → unit_memory units times integrals v ≡ rooftop_memory (rooftop_start (word_flag (get_or keeps_hour v 0)))
        go true e = starts v (ltb-true v 6 e)
        go false e =
            let past : 6 ≤ v = ltb-false v 6 e in
            (λ i.
            memory (get_or_past units v fresh_memory.words (omega arith) i) (get_or_past times v fresh_memory.times (omega arith) i)
            (get_or_past integrals v fresh_memory.integrals (omega arith) i))
            ∙ ap (λ (x : ℕ). rooftop_memory (rooftop_start (word_flag x))) (sym (get_or_past keeps_hour v 0 (omega arith)))

    pub started : (rows : List (List RooftopRowWords))
        → ((v : ℕ) → unit_memory units times integrals v ≡ rooftop_memory (rooftop_start (word_flag (get_or keeps_hour v 0))))
        → board_in (record { turn = 0; counts = replicate 6 0; rows = rows; units = units; times = times; integrals = integrals })
        ≡ board_start (map word_flag keeps_hour)
    unfolding board_in board_start lines_of word_flag
    started rows starts = λ i.
        record {
          lines = λ v. ap (λ (c : ℕ). map rooftop_row_of (take c (get_or rows v []))) (none_counted 6 v) i;
          units = λ v.
              (ap rooftop_in (starts v) ∙ rooftop_back (rooftop_start (word_flag (get_or keeps_hour v 0)))
              ∙ ap rooftop_start (sym (get_or-map word_flag keeps_hour v 0))) i;
          turn = 0;
        }

module _ (w : BoardWords) (counts : List ℕ) (rows : List (List RooftopRowWords)) where
  -- ---- an offer
  pub offered : (verdict : Verdict) (u : ℕ) (row : RooftopRowWords) → (verdict, lines_of counts rows) ≡ offer_row (lines_of w.counts w.rows) u row
      → (offer_status verdict, board_in (record w { counts = counts; rows = rows })) ≡ board_offered (offer (board_in w) u (rooftop_row_of row))
  unfolding board_in offer
  offered verdict u row e =
      ap (λ (done : Verdict × Lines RooftopRow). (offer_status done.0, record { lines = done.1; units = units_in w.units w.times w.integrals; turn = w.turn }))
      (ap (λ (done : Verdict × Lines RooftopRowWords). (done.0, mapped rooftop_row_of done.1)) e
      ∙ sym (offer_mapped rooftop_row_of (lines_of w.counts w.rows) u row))

  -- ---- a tick: what is served of the words is served of what they stand for
  served : (row : Option (ℕ × RooftopRowWords)) → (row, lines_of counts rows) ≡ serve_row (lines_of w.counts w.rows) w.turn
      → board_ticked (served_by unit_answer unit_next (mapped_served rooftop_row_of (row, lines_of counts rows)) (board_in w))
      ≡ board_ticked (board_tick (board_in w))
  unfolding board_in board_tick tick
  served row e =
      ap (λ (done : Option (ℕ × RooftopRow) × Lines RooftopRow). board_ticked (served_by unit_answer unit_next done (board_in w)))
      (ap (mapped_served rooftop_row_of) e ∙ sym (serve_mapped rooftop_row_of (lines_of w.counts w.rows) w.turn))

  pub none_served : (commands : RooftopCommandsWords) → commands ≡ rooftop_commands_zero
      → (None, lines_of counts rows) ≡ serve_row (lines_of w.counts w.rows) w.turn
      → (record { served = 0; unit = 0; status = 0; commands = commands }, board_in (record w { counts = counts; rows = rows }))
      ≡ board_ticked (board_tick (board_in w))
  unfolding board_in served_words
  none_served commands z e =
      let same : lines_of counts rows ≡ lines_of w.counts w.rows =
      ap (λ (done : Option (ℕ × RooftopRowWords) × Lines RooftopRowWords). done.1) e
      ∙ none_leaves (lines_of w.counts w.rows) w.turn (sym (ap (λ (done : Option (ℕ × RooftopRowWords) × Lines RooftopRowWords). done.0) e)) in
      (λ i. (
        record { served = 0; unit = 0; status = 0; commands = z i },
        record { lines = mapped rooftop_row_of (same i); units = units_in w.units w.times w.integrals; turn = w.turn },
      ))
      ∙ served None e

  module _ (u : ℕ) (row : RooftopRowWords) (given : RooftopRow) (held : RooftopHeld) (other : RooftopWords) (step : LentStep)
      (words : RooftopWords) (t n : List Float) (a : Answered RooftopCommandsWords) where
    pub one_served : (Some (u, row), lines_of counts rows) ≡ serve_row (lines_of w.counts w.rows) w.turn
        → u < length w.units → u < length w.times → u < length w.integrals
        → given ≡ rooftop_row_of row → held ≡ rooftop_of (get_or w.units u other)
        → lent_step step t n ≡ rooftop_row (lent_state held (get_or w.times u []) (get_or w.integrals u [])) given
        → words ≡ rooftop_words step.state → a ≡ rooftop_answered step.answer
        → (
          record { served = 1; unit = u; status = a.status; commands = a.commands },
          board_in
              (record { turn = u + 1; counts = counts; rows = rows; units = set w.units u words; times = set w.times u t; integrals = set w.integrals u n }),
        ) ≡ board_ticked (board_tick (board_in w))
    unfolding board_in served_words
    one_served e h k l row_is held_is step_is words_is answer_is =
        let s : RooftopStep = rooftop_row (units_in w.units w.times w.integrals u) (rooftop_row_of row) in
        let held_all : held ≡ rooftop_of (get_or w.units u fresh_memory.words) =
        held_is ∙ ap rooftop_of (get_or_default w.units u other fresh_memory.words h) in
        let stepped : lent_step step t n ≡ s =
        step_is
        ∙ λ i.
        rooftop_row
        (lent_state (held_all i) (get_or_default w.times u [] fresh_memory.times k i) (get_or_default w.integrals u [] fresh_memory.integrals l i))
        (row_is i) in
        let state_is : rooftop_in (memory words t n) ≡ s.state =
        ap (λ (x : RooftopHeld). lent_state x t n) (ap rooftop_of words_is ∙ words_of.rooftop_back step.state)
        ∙ ap (λ (x : RooftopStep). x.state) stepped in
        let answered_is : a ≡ rooftop_answered s.answer = answer_is ∙ ap (λ (x : RooftopStep). rooftop_answered x.answer) stepped in
        let next : u + 1 ≡ suc u = omega arith in
        (λ i. (
          record { served = 1; unit = u; status = (answered_is i).status; commands = (answered_is i).commands },
          record {
            lines = mapped rooftop_row_of (lines_of counts rows);
            units = λ v. set_unit w.units w.times w.integrals u words t n h k l s.state state_is v i;
            turn = next i;
          },
        ))
        ∙ served (Some (u, row)) e
