-- A board over any units, for every board and every list of commands. Assumes nothing.
use Prim.Native.Nat.{ℕ, zero, suc, ◌+◌, ◌*◌, ◌≤◌, ◌<◌}
use native.Mathlib.Omega.{arith}
use mathlib.Core.Path.{◌≡◌, refl, sym, ap, ◌∙◌}
use mathlib.Core.Bool.{Bool, true, false, cond, true≢false}
use mathlib.Core.List.{List, [], ◌∷◌, ◌++◌, append_assoc, append-nil}
use mathlib.Core.Logic.{◌⊎◌, inl, inr}
use lib.ListN.{length, take, drop, drop_of_length-le}
use Rattle.std.proofs.lemmas.Bool.{eq-eqb, lt-ltb, le-ltb, le-leb, lt-leb}
use Rattle.refusals.specs.declared.Refusal.TheVariants.{NoUnit, LineFull}
use Rattle.logical.specs.Run.{run}
use Rattle.std.specs.Prelude.{Option, None, Some}
use Rattle.std.proofs.lemmas.List.{length-append, take-append-le}
use Rattle.board.specs.Lines.{with_unit, offer_verdict, offer_row, next_unit, leaves, serve_by, serve_row}
use Rattle.board.specs.Board.{Board, offer, Command, Offer, Tick, Joined, Away, Event, Answered, Idle, served_by, tick, ticked, act, after, events}
use Rattle.board.specs.Unit.{ticks, names, said, taken, answers, InOrder, own, alone}
use Rattle.board.proofs.Places.{has_row}
use Rattle.board.proofs.Turns.{ahead, ahead_below, none_waits, some_waits, served_below}
use Rattle.board.proofs.Effects.{Effect, full, joins, serves, elsewhere, effect, served_or_nearer_at, offer_turn}

-- a run over the first rows has the first answers
run_take : {R S A : Type 0} (answer : S → R → A) (next : S → R → S) (n : ℕ) (rows : List R) (s : S) → take n (run answer next s rows) ≡ run answer next s (take n rows)
unfolding run
run_take answer next zero rows s = refl
run_take answer next (suc n) [] s = refl
run_take {A = A} answer next (suc n) (x ∷ rows) s = ap (λ (more : List A). answer s x ∷ more) (run_take answer next n rows (next s x))

take_less : {R : Type 0} (n m : ℕ) (rows : List R) → n ≤ m → take n (take m rows) ≡ take n rows
take_less zero m rows h = refl
take_less (suc n) zero rows h = absurd (omega (arith, h))
take_less (suc n) (suc m) [] h = refl
take_less {R} (suc n) (suc m) (x ∷ rows) h = ap (λ (more : List R). x ∷ more) (take_less n m rows (omega (arith, h)))

module _ {R S A : Type 0} (answer : S → R → A) (next : S → R → S) (u : ℕ) where
  module _ (below : u ≤ 5) where
    -- ---- the unit's rows, those that waited first and then those taken since, are answered in their order, as by the unit on its own; those not answered wait, and the unit
    -- stands where it does on its own
    pub in_order : (cs : List (Command R)) (b : Board R S)
        → InOrder answer next (b.units u) (b.lines u ++ taken u (events answer next b cs)) (answers u (events answer next b cs)) ((after answer next b cs).lines u)
        ((after answer next b cs).units u)
    unfolding events after
    in_order [] b = record { answered = unfold run in refl; waits = sym (append-nil (b.lines u)); stands = refl }
    in_order (c ∷ cs) b = go (act answer next b c) (effect answer next b u below c) (in_order cs (act answer next b c).1)
      where
        go : (done : Event R A × Board R S) → Effect answer next b u c done
            → InOrder answer next (done.1.units u) (done.1.lines u ++ taken u (events answer next done.1 cs)) (answers u (events answer next done.1 cs)) ((after answer next done.1 cs).lines u)
            ((after answer next done.1 cs).units u)
            → InOrder answer next (b.units u) (b.lines u ++ taken u (done.0 ∷ events answer next done.1 cs)) (answers u (done.0 ∷ events answer next done.1 cs)) ((after answer next done.1 cs).lines u)
            ((after answer next done.1 cs).units u)
        go done (full row c e h l s) ih = rw (e, eq-eqb u u refl, ← l, ← s) ih
        go done (joins row c e h l s) ih = rw (e, eq-eqb u u refl, ← s, ← append_assoc (b.lines u) (row ∷ []) (taken u (events answer next done.1 cs)), ← l) ih
        go done (serves row c e l s) ih =
            rw (e, eq-eqb u u refl, l)
            (record { answered = unfold run in ap (λ (more : List A). answer (b.units u) row ∷ more) (rw s at ih.answered); waits = ih.waits; stands = rw s at ih.stands })
        go done (elsewhere e l s) ih = rw (e, ← l, ← s) ih

    -- ---- what is said to the unit is what is said to it by itself, at the commands that concern it
    pub said_alone : (cs : List (Command R)) (b : Board R S) → said u (events answer next b cs) ≡ alone answer next u (b.lines u) (b.units u) (own answer next u b cs)
    unfolding events own alone
    said_alone [] b = refl
    said_alone (c ∷ cs) b = go (act answer next b c) (effect answer next b u below c) (said_alone cs (act answer next b c).1)
      where
        go : (done : Event R A × Board R S) → Effect answer next b u c done
            → said u (events answer next done.1 cs) ≡ alone answer next u (done.1.lines u) (done.1.units u) (own answer next u done.1 cs)
            → said u (done.0 ∷ events answer next done.1 cs)
            ≡ alone answer next u (b.lines u) (b.units u) (cond (names u done.0) (c ∷ own answer next u done.1 cs) (own answer next u done.1 cs))
        go done (full row c e h l s) ih = rw (c, e, eq-eqb u u refl, le-leb 4 (length (b.lines u)) h, ih, l, s) refl
        go done (joins row c e h l s) ih = rw (c, e, eq-eqb u u refl, lt-leb 4 (length (b.lines u)) h, ih, l, s) refl
        go done (serves row c e l s) ih = rw (c, e, eq-eqb u u refl, l, ih, s) refl
        go done (elsewhere e l s) ih = rw (e, ih, l, s) refl

    -- ---- within six ticks
    -- the unit's next answer is the one to this row
    abbrev pub Next : Board R S → List (Command R) → R → Type 0
    Next b ds row = (more : List A) × answers u (events answer next b ds) ≡ answer (b.units u) row ∷ more

    module _ (row : R) (ds : List (Command R)) where
      -- one command more: the row is answered, or is still the first of its line
      one : (b : Board R S) (rest : List R) (c : Command R) (done : Event R A × Board R S) → Effect answer next b u c done → b.lines u ≡ row ∷ rest
          → ((rest' : List R) → done.1.lines u ≡ row ∷ rest' → Next done.1 ds row) → (more : List A) × answers u (done.0 ∷ events answer next done.1 ds) ≡ answer (b.units u) row ∷ more
      one b rest c done (full y d e h l s) w ih = let r = ih rest (l ∙ w) in (r.0, rw (e, eq-eqb u u refl, ← s) (r.1))
      one b rest c done (joins y d e h l s) w ih =
          let r = ih (rest ++ (y ∷ [])) (l ∙ ap (λ (k : List R). k ++ (y ∷ [])) w) in
          (r.0, rw (e, eq-eqb u u refl, ← s) (r.1))
      one b rest c done (serves y d e l s) w ih =
          let f : y ∷ done.1.lines u ≡ row ∷ rest = sym l ∙ w in
          let same : y ≡ row = cc in
          (answers u (events answer next done.1 ds), rw (e, eq-eqb u u refl, same) refl)
      one b rest c done (elsewhere e l s) w ih = let r = ih rest (l ∙ w) in (r.0, rw (e, ← s) (r.1))

      -- a tick that says something to the unit answers the row
      here : (b : Board R S) (rest : List R) (done : Event R A × Board R S) → Effect answer next b u Tick done → b.lines u ≡ row ∷ rest → names u done.0 ≡ true
          → (more : List A) × answers u (done.0 ∷ events answer next done.1 ds) ≡ answer (b.units u) row ∷ more
      here b rest done (full y d e h l s) w n = absurd (let z : ◌≡◌ {A = ℕ} 0 1 = cc in omega arith)
      here b rest done (joins y d e h l s) w n = absurd (let z : ◌≡◌ {A = ℕ} 0 1 = cc in omega arith)
      here b rest done (serves y d e l s) w n =
          let f : y ∷ done.1.lines u ≡ row ∷ rest = sym l ∙ w in
          let same : y ≡ row = cc in
          (answers u (events answer next done.1 ds), rw (e, eq-eqb u u refl, same) refl)
      here b rest done (elsewhere e l s) w n = absurd (true≢false (sym n ∙ e))

    served_from : (row : R) (ds : List (Command R)) (b : Board R S) (rest : List R) → b.lines u ≡ row ∷ rest → ahead b.turn u < ticks ds → Next b ds row
    unfolding events ticks
    served_from row [] b rest w h = absurd (omega (arith, h))
    served_from row (Offer v x ∷ ds) b rest w h =
        one row ds b rest (Offer v x) (act answer next b (Offer v x)) (effect answer next b u below (Offer v x)) w
        (λ rest' w'. served_from row ds (act answer next b (Offer v x)).1 rest' w' (rw (offer_turn answer next b v x) h))
    served_from row (Tick ∷ ds) b rest w h =
        go (served_or_nearer_at answer next b u below (rw w (lt-ltb 0 (suc (length rest)) (omega arith))))
        (λ rest' w' l. served_from row ds (act answer next b Tick).1 rest' w' l)
      where
        go : (names u (act answer next b Tick).0 ≡ true) ⊎ (ahead (act answer next b Tick).1.turn u < ahead b.turn u)
            → ((rest' : List R) → (act answer next b Tick).1.lines u ≡ row ∷ rest' → ahead (act answer next b Tick).1.turn u < ticks ds → Next (act answer next b Tick).1 ds row)
            → (more : List A) × answers u ((act answer next b Tick).0 ∷ events answer next (act answer next b Tick).1 ds) ≡ answer (b.units u) row ∷ more
        go (inl n) ih = here row ds b rest (act answer next b Tick) (effect answer next b u below Tick) w n
        go (inr near) ih =
            one row ds b rest Tick (act answer next b Tick) (effect answer next b u below Tick) w (λ rest' w'. ih rest' w' (omega (arith, near, h)))

    -- a row that is the first of its line is served within six ticks, whatever is offered meanwhile
    pub served_within_6 : (b : Board R S) (row : R) (rest : List R) → b.lines u ≡ row ∷ rest → (ds : List (Command R)) → 6 ≤ ticks ds → Next b ds row
    served_within_6 b row rest w ds h = served_from row ds b rest w (omega (arith, ahead_below b.turn u below, h))

    -- ---- and each row that waits within six ticks a row
    -- one command more, at which as many are still to be answered
    as_many : (n : ℕ) (ds : List (Command R)) (b : Board R S) (c : Command R) (done : Event R A × Board R S) → Effect answer next b u c done → (c ≡ Tick → ⊥) ⊎ (names u done.0 ≡ false)
        → n ≤ length (b.lines u) → (n ≤ length (done.1.lines u) → n ≤ length (answers u (events answer next done.1 ds))) → n ≤ length (answers u (done.0 ∷ events answer next done.1 ds))
    as_many n ds b c done (full row d e k l s) other h ih = rw (e, eq-eqb u u refl) (ih (rw l h))
    as_many n ds b c done (joins row d e k l s) other h ih = rw (e, eq-eqb u u refl) (ih (rw (l, length-append (b.lines u) (row ∷ [])) (omega (arith, h))))
    as_many n ds b c done (serves row d e l s) (inl no_tick) h ih = absurd (no_tick d)
    as_many n ds b c done (serves row d e l s) (inr f) h ih = absurd (true≢false (sym (rw e (eq-eqb u u refl)) ∙ f))
    as_many n ds b c done (elsewhere e l s) other h ih = rw e (ih (rw l h))

    -- a tick that serves the unit: one is answered
    one_less : (n : ℕ) (ds : List (Command R)) (b : Board R S) (done : Event R A × Board R S) → Effect answer next b u Tick done → names u done.0 ≡ true
        → suc n ≤ length (b.lines u) → (n ≤ length (done.1.lines u) → n ≤ length (answers u (events answer next done.1 ds))) → suc n ≤ length (answers u (done.0 ∷ events answer next done.1 ds))
    one_less n ds b done (full row d e k l s) f h ih = absurd (let z : ◌≡◌ {A = ℕ} 0 1 = cc in omega arith)
    one_less n ds b done (joins row d e k l s) f h ih = absurd (let z : ◌≡◌ {A = ℕ} 0 1 = cc in omega arith)
    one_less n ds b done (serves row d e l s) f h ih = rw (e, eq-eqb u u refl) (omega (arith, ih (omega (arith, h, ap length l))))
    one_less n ds b done (elsewhere e l s) f h ih = absurd (true≢false (sym f ∙ e))

    answered_from : (ds : List (Command R)) (b : Board R S) (n : ℕ) → suc n ≤ length (b.lines u) → 6 * n + ahead b.turn u < ticks ds → suc n ≤ length (answers u (events answer next b ds))
    unfolding events ticks
    answered_from [] b n h t = absurd (omega (arith, t))
    answered_from (Offer v x ∷ ds) b n h t =
        as_many (suc n) ds b (Offer v x) (act answer next b (Offer v x)) (effect answer next b u below (Offer v x)) (inl (λ e. let z : ◌≡◌ {A = ℕ} 0 1 = cc in omega arith)) h
        (λ k. answered_from ds (act answer next b (Offer v x)).1 n k (rw (offer_turn answer next b v x) t))
    answered_from (Tick ∷ ds) b n h t =
        go n (names u (act answer next b Tick).0) refl h t (served_or_nearer_at answer next b u below (lt-ltb 0 (length (b.lines u)) (omega (arith, h))))
        (λ m. answered_from ds (act answer next b Tick).1 m)
      where
        go : (n : ℕ) (q : Bool) → names u (act answer next b Tick).0 ≡ q → suc n ≤ length (b.lines u) → 6 * n + ahead b.turn u < suc (ticks ds)
            → (names u (act answer next b Tick).0 ≡ true) ⊎ (ahead (act answer next b Tick).1.turn u < ahead b.turn u)
            → ((m : ℕ) → suc m ≤ length ((act answer next b Tick).1.lines u) → 6 * m + ahead (act answer next b Tick).1.turn u < ticks ds
            → suc m ≤ length (answers u (events answer next (act answer next b Tick).1 ds)))
            → suc n ≤ length (answers u ((act answer next b Tick).0 ∷ events answer next (act answer next b Tick).1 ds))
        go zero true f h t s ih = one_less 0 ds b (act answer next b Tick) (effect answer next b u below Tick) f h (λ k. omega arith)
        go (suc m) true f h t s ih =
            one_less (suc m) ds b (act answer next b Tick) (effect answer next b u below Tick) f h
            (λ k. ih m k (omega (arith, t, ahead_below (act answer next b Tick).1.turn u below)))
        go n false f h t (inl g) ih = absurd (true≢false (sym g ∙ f))
        go n false f h t (inr near) ih =
            as_many (suc n) ds b Tick (act answer next b Tick) (effect answer next b u below Tick) (inr f) h (λ k. ih n k (omega (arith, t, near)))

    enough : (b : Board R S) (n : ℕ) → n ≤ length (b.lines u) → (ds : List (Command R)) → 6 * n ≤ ticks ds → n ≤ length (answers u (events answer next b ds))
    enough b zero h ds t = omega arith
    enough b (suc n) h ds t = answered_from ds b n h (omega (arith, ahead_below b.turn u below, t))

    -- the first n of the rows that wait are answered within six ticks each, in their order and as by the unit on its own, whatever is offered meanwhile
    pub answered_within : (b : Board R S) (n : ℕ) → n ≤ length (b.lines u) → (ds : List (Command R)) → 6 * n ≤ ticks ds
        → take n (answers u (events answer next b ds)) ≡ run answer next (b.units u) (take n (b.lines u))
    answered_within b n h ds t =
        let given = answers u (events answer next b ds) in
        ap (take n) (in_order ds b).answered
        ∙ run_take answer next n (take (length given) (b.lines u ++ taken u (events answer next b ds))) (b.units u)
        ∙ ap (run answer next (b.units u))
        (take_less n (length given) (b.lines u ++ taken u (events answer next b ds)) (enough b n h ds t) ∙ take-append-le n (b.lines u) (taken u (events answer next b ds)) h)

    -- and if no row joins the line meanwhile it is empty then
    pub emptied_within : (b : Board R S) (ds : List (Command R)) → 6 * length (b.lines u) ≤ ticks ds → taken u (events answer next b ds) ≡ [] → (after answer next b ds).lines u ≡ []
    emptied_within b ds t none =
        (in_order ds b).waits
        ∙ ap (λ (more : List R). drop (length (answers u (events answer next b ds))) (b.lines u ++ more)) none
        ∙ ap (drop (length (answers u (events answer next b ds)))) (append-nil (b.lines u))
        ∙ drop_of_length-le (b.lines u) (enough b (length (b.lines u)) (omega arith) ds t)

  -- ---- two runs
  module _ (below : u ≤ 5) (b b' : Board R S) (cs cs' : List (Command R)) (same_line : b.lines u ≡ b'.lines u) (same_unit : b.units u ≡ b'.units u) where
    -- two runs with the same offers to a unit and the same ticks that served it, in the same order, say the same to it
    pub by_own_commands : own answer next u b cs ≡ own answer next u b' cs' → said u (events answer next b cs) ≡ said u (events answer next b' cs')
    by_own_commands e = said_alone below cs b ∙ rw (same_line, same_unit, e) refl ∙ sym (said_alone below cs' b')

    -- two runs in which the same rows joined the line of a unit, and as many ticks served it, have the same answers of it
    pub by_rows_taken : taken u (events answer next b cs) ≡ taken u (events answer next b' cs')
        → length (answers u (events answer next b cs)) ≡ length (answers u (events answer next b' cs')) → answers u (events answer next b cs) ≡ answers u (events answer next b' cs')
    by_rows_taken e n =
        (in_order below cs b).answered ∙ rw (same_line, same_unit, e, n) refl ∙ sym (in_order below cs' b').answered

-- ---- the whole board
module _ {R S A : Type 0} (answer : S → R → A) (next : S → R → S) (b : Board R S) where
  -- with no row waiting a tick changes nothing
  pub idle : ((u : ℕ) → u ≤ 5 → b.lines u ≡ []) → act answer next b Tick ≡ (Idle, b)
  unfolding act tick serve_row
  idle h = rw (none_waits b.lines b.turn (λ u below. rw (h u below) refl)) refl

  -- what a tick serves: the first row of the first unit in turn that has one. The row leaves its line, its unit moves on, and all else is as before
  pub record Serves (done : Event R A × Board R S) : Type 0 where
    pub unit : ℕ
    pub row : R
    pub rest : List R
    pub below : unit ≤ 5
    pub in_its_turn : next_unit b.lines b.turn ≡ Some unit
    pub first : b.lines unit ≡ row ∷ rest
    pub says : done.0 ≡ Answered unit (answer (b.units unit) row)
    pub leaves_it : done.1 ≡ record { lines = with_unit b.lines unit rest; units = with_unit b.units unit (next (b.units unit) row); turn = suc unit }

  -- with a row waiting anywhere it serves one
  pub serves_one : (u : ℕ) → u ≤ 5 → (row : R) (rest : List R) → b.lines u ≡ row ∷ rest → Serves (act answer next b Tick)
  unfolding act tick serve_row
  serves_one u below row rest w = go (next_unit b.lines b.turn) refl
    where
      by : (v : ℕ) (line : List R) → b.lines v ≡ line → next_unit b.lines b.turn ≡ Some v → Serves (ticked answer next (served_by answer next (leaves b.lines v line) b).0, (served_by answer next (leaves b.lines v line) b).1)
      by v [] e f = absurd (let h : 0 < length (b.lines v) = has_row b.lines b.turn v f in omega (arith, h, ap length e))
      by v (y ∷ ys) e f = record { unit = v; row = y; rest = ys; below = served_below b.lines b.turn v f; in_its_turn = f; first = e; says = refl; leaves_it = refl }

      go : (found : Option ℕ) → next_unit b.lines b.turn ≡ found → Serves (ticked answer next (served_by answer next (serve_by b.lines found) b).0, (served_by answer next (serve_by b.lines found) b).1)
      go None e = absurd (some_waits b.lines b.turn u below (rw w (lt-ltb 0 (suc (length rest)) (omega arith))) e)
      go (Some v) e = by v (b.lines v) refl e

-- ---- an offer, and where the turn begins
module _ {R S A : Type 0} (answer : S → R → A) (next : S → R → S) (b : Board R S) (u : ℕ) (row : R) where
  -- with a number that no unit has it is turned away with 12, whatever waits
  pub no_such_unit : 5 < u → act answer next b (Offer u row) ≡ (Away u NoUnit, b)
  unfolding act offer offer_row offer_verdict
  no_such_unit h = rw (lt-ltb 5 u h) refl

  -- where four rows wait, with 13
  pub away_where_full : u ≤ 5 → 4 ≤ length (b.lines u) → act answer next b (Offer u row) ≡ (Away u LineFull, b)
  unfolding act offer offer_row offer_verdict
  away_where_full below h = rw (le-ltb 5 u below, le-leb 4 (length (b.lines u)) h) refl

  -- where fewer wait it joins the line: the place of a row that has been served is used again
  pub joins_where_free : u ≤ 5 → length (b.lines u) < 4
      → act answer next b (Offer u row) ≡ (Joined u row, record { lines = with_unit b.lines u (b.lines u ++ (row ∷ [])); units = b.units; turn = b.turn })
  unfolding act offer offer_row offer_verdict
  joins_where_free below h = rw (le-ltb 5 u below, lt-leb 4 (length (b.lines u)) h) refl

-- no line holds more than four, if none does at first
module _ {R S A : Type 0} (answer : S → R → A) (next : S → R → S) (u : ℕ) (below : u ≤ 5) where
  one_more : (b : Board R S) (c : Command R) → length (b.lines u) ≤ 4 → length ((act answer next b c).1.lines u) ≤ 4
  one_more b c h = go (act answer next b c) (effect answer next b u below c)
    where
      go : (done : Event R A × Board R S) → Effect answer next b u c done → length (done.1.lines u) ≤ 4
      go done (full row d e k l s) = rw l h
      go done (joins row d e k l s) = rw (l, length-append (b.lines u) (row ∷ [])) (omega (arith, k))
      go done (serves row d e l s) = omega (arith, h, ap length l)
      go done (elsewhere e l s) = rw l h

  pub at_most_4 : (cs : List (Command R)) (b : Board R S) → length (b.lines u) ≤ 4 → length ((after answer next b cs).lines u) ≤ 4
  unfolding after
  at_most_4 [] b h = h
  at_most_4 (c ∷ cs) b h = at_most_4 cs (act answer next b c).1 (one_more b c h)

-- before the first tick the turn is where it began
module _ {R S A : Type 0} (answer : S → R → A) (next : S → R → S) where
  pub turn_at_first : (cs : List (Command R)) (b : Board R S) → ticks cs ≡ 0 → (after answer next b cs).turn ≡ b.turn
  unfolding after ticks
  turn_at_first [] b h = refl
  turn_at_first (Offer v row ∷ cs) b h = turn_at_first cs (act answer next b (Offer v row)).1 h ∙ offer_turn answer next b v row
  turn_at_first (Tick ∷ cs) b h = absurd (omega (arith, h))
