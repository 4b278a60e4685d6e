-- The board as the code holds it: an offer and a tick, from what becomes of the lines. Assumes nothing.
use Prim.Native.Nat.{ℕ, zero, suc, ◌+◌, ◌<◌}
use native.Mathlib.Omega.{arith}
use mathlib.Core.Path.{◌≡◌, refl, sym, ap, ◌∙◌}
use mathlib.Core.Bool.{Bool, false}
use mathlib.Core.List.{List, [], ◌∷◌, map}
use lib.ListN.{length, get_or, set, take, replicate, get_or-map}
use Rattle.std.specs.Prelude.{Option, None, Some}
use Rattle.refusals.specs.Refusals.{Verdict}
use Rattle.rooftop.specs.declared.types.RooftopRow.{RooftopRow}
use Rattle.rooftop.specs.declared.types.RooftopState.{RooftopState}
use Rattle.rooftop.specs.Step.{rooftop_start, rooftop_fresh, RooftopStep, rooftop_row}
use Rattle.board.specs.declared.types.Board as code
use Rattle.board.specs.Lines.{with_unit, Lines, lines_of, offer_row, next_unit, leaves, serve_by, serve_row}
use Rattle.board.specs.Board.{offer, served_by, tick}
use Rattle.board.specs.Rooftops.{board_of, board_start, unit_answer, unit_next, board_tick}
use Rattle.board.proofs.Places.{set_reads}

-- where none is served no line changes
pub none_leaves : {R : Type 0} (lines : Lines R) (first : ℕ) → (serve_row lines first).0 ≡ None → (serve_row lines first).1 ≡ lines
unfolding serve_row
none_leaves {R} lines first e = go (next_unit lines first) e
  where
    by : (u : ℕ) (line : List R) → (leaves lines u line).0 ≡ None → (leaves lines u line).1 ≡ lines
    by u [] e = refl
    by u (row ∷ rest) e = absurd (let z : ◌≡◌ {A = ℕ} 0 1 = cc in omega arith)

    go : (found : Option ℕ) → (serve_by lines found).0 ≡ None → (serve_by lines found).1 ≡ lines
    go None e = refl
    go (Some u) e = by u (lines u) e

-- what stands past the end of a list is read at no place of it
within : {A : Type 0} (l : List A) (i : ℕ) (d e : A) → i < length l → get_or l i d ≡ get_or l i e
within [] i d e h = absurd (omega (arith, h))
within (x ∷ l) zero d e h = refl
within (x ∷ l) (suc i) d e h = within l i d e (omega (arith, h))

module _ (b : code.Board) (counts : List ℕ) (rows : List (List RooftopRow)) where
  pub offered : (verdict : Verdict) (u : ℕ) (row : RooftopRow) → (verdict, lines_of counts rows) ≡ offer_row (lines_of b.counts b.rows) u row
      → (verdict, board_of (record { counts = counts; rows = rows; units = b.units; turn = b.turn })) ≡ offer (board_of b) u row
  unfolding board_of offer
  offered verdict u row e = ap (λ (done : Verdict × Lines RooftopRow). (done.0, record { lines = done.1; units = λ v. get_or b.units v rooftop_fresh; turn = b.turn })) e

  pub ticked_idle : (None, lines_of counts rows) ≡ serve_row (lines_of b.counts b.rows) b.turn
      → (None, board_of (record { counts = counts; rows = rows; units = b.units; turn = b.turn })) ≡ board_tick (board_of b)
  unfolding board_of board_tick tick
  ticked_idle e =
      ap (λ (lines : Lines RooftopRow). (None, record { lines = lines; units = λ v. get_or b.units v rooftop_fresh; turn = b.turn }))
      (ap (λ (done : Option (ℕ × RooftopRow) × Lines RooftopRow). done.1) e
      ∙ none_leaves (lines_of b.counts b.rows) b.turn (sym (ap (λ (done : Option (ℕ × RooftopRow) × Lines RooftopRow). done.0) e)))
      ∙ ap (λ (done : Option (ℕ × RooftopRow) × Lines RooftopRow). served_by unit_answer unit_next done (board_of b)) e

  pub ticked_served : (u : ℕ) (row : RooftopRow) (step : RooftopStep) (other : RooftopState) → (Some (u, row), lines_of counts rows) ≡ serve_row (lines_of b.counts b.rows) b.turn → u < length b.units
      → step ≡ rooftop_row (get_or b.units u other) row
      → (Some (record { unit = u; answer = step.answer }), board_of (record { counts = counts; rows = rows; units = set b.units u step.state; turn = u + 1 })) ≡ board_tick (board_of b)
  unfolding board_of board_tick tick
  ticked_served u row step other e h k =
      let one_more : u + 1 ≡ suc u = omega arith in
      let s : step ≡ rooftop_row (get_or b.units u rooftop_fresh) row = k ∙ ap (λ (x : RooftopState). rooftop_row x row) (within b.units u other rooftop_fresh h) in
      (λ i. (
        Some (record { unit = u; answer = (s i).answer }),
        record {
          lines = lines_of counts rows;
          units = λ v. (set_reads b.units u step.state rooftop_fresh h v ∙ ap (λ (x : RooftopStep). with_unit (λ w. get_or b.units w rooftop_fresh) u x.state v) s) i;
          turn = one_more i;
        },
      ))
      ∙ ap (λ (done : Option (ℕ × RooftopRow) × Lines RooftopRow). served_by unit_answer unit_next done (board_of b)) e

-- ---- a start
-- six things, one by one
pub each_of_six : {A B : Type 0} (f : A → B) (l : List A) (a b c d e g : A) → length l ≡ 6
    → f (get_or l 0 a) ∷ f (get_or l 1 b) ∷ f (get_or l 2 c) ∷ f (get_or l 3 d) ∷ f (get_or l 4 e) ∷ f (get_or l 5 g) ∷ [] ≡ map f l
each_of_six f [] a b c d e g h = absurd (omega (arith, h))
each_of_six f (u ∷ []) a b c d e g h = absurd (omega (arith, h))
each_of_six f (u ∷ v ∷ []) a b c d e g h = absurd (omega (arith, h))
each_of_six f (u ∷ v ∷ w ∷ []) a b c d e g h = absurd (omega (arith, h))
each_of_six f (u ∷ v ∷ w ∷ x ∷ []) a b c d e g h = absurd (omega (arith, h))
each_of_six f (u ∷ v ∷ w ∷ x ∷ y ∷ []) a b c d e g h = absurd (omega (arith, h))
each_of_six f (u ∷ v ∷ w ∷ x ∷ y ∷ z ∷ []) a b c d e g h = refl
each_of_six f (u ∷ v ∷ w ∷ x ∷ y ∷ z ∷ t ∷ l) a b c d e g h = absurd (omega (arith, h))

-- nothing is counted
pub none_counted : (n u : ℕ) → ◌≡◌ {A = ℕ} (get_or (replicate n 0) u 0) 0
none_counted zero u = refl
none_counted (suc n) zero = refl
none_counted (suc n) (suc u) = none_counted n u

pub started : (keeps_hour : List Bool) (rows : List (List RooftopRow))
    → board_of (record { counts = replicate 6 0; rows = rows; units = map rooftop_start keeps_hour; turn = 0 }) ≡ board_start keeps_hour
unfolding board_of board_start lines_of rooftop_fresh
started keeps_hour rows = λ i.
    record {
      lines = λ u. ap (λ (n : ℕ). take n (get_or rows u [])) (none_counted 6 u) i;
      units = λ u. get_or-map rooftop_start keeps_hour u false i;
      turn = 0;
    }
