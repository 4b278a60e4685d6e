-- What a command to a board does to one of its units. Assumes nothing.
use Prim.Native.Nat.{ℕ, suc, ◌≤◌, ◌<◌}
use native.Mathlib.Omega.{arith}
use mathlib.Core.Path.{◌≡◌, refl, sym, ap, ◌∙◌}
use mathlib.Core.Bool.{Bool, true, false, cond}
use mathlib.Core.List.{List, [], ◌∷◌, ◌++◌}
use mathlib.Core.Logic.{◌⊎◌, inl, inr}
use lib.Dec.{leb, eqb}
use lib.ListN.{length}
use Rattle.std.proofs.lemmas.Bool.{eqb-true, eqb-false, eq-eqb, ne_eqb, leb-true, leb-false, le-ltb}
use Rattle.std.specs.Prelude.{Option, None, Some, Ok, Err}
use Rattle.refusals.specs.declared.Refusal.TheVariants.{LineFull}
use Rattle.refusals.specs.Refusals.{Verdict}
use Rattle.board.specs.Lines.{with_unit, offer_verdict, lines_by, offer_row, waits, next_unit, leaves, serve_by, serve_row}
use Rattle.board.specs.Board.{Board, offer, Command, Offer, Tick, Event, Joined, Away, Answered, served_by, tick, offered, ticked, act}
use Rattle.board.specs.Unit.{names}
use Rattle.board.proofs.Places.{has_row}
use Rattle.board.proofs.Turns.{ahead, some_waits, served_or_nearer}

module _ {A : Type 0} (of : ℕ → A) (u : ℕ) (new : A) where
  pub with_here : with_unit of u new u ≡ new
  unfolding with_unit
  with_here = rw (eq-eqb u u refl) refl

  pub with_other : (v : ℕ) → eqb u v ≡ false → with_unit of u new v ≡ of v
  unfolding with_unit
  with_other v e = rw (ne_eqb v u (λ p. eqb-false u v e (sym p))) refl

module _ {R S A : Type 0} (answer : S → R → A) (next : S → R → S) where
  -- ---- a command to unit u finds its line full, or free, so that the row joins it; a tick serves its first row; or the command does not concern it
  pub data Effect (b : Board R S) (u : ℕ) (c : Command R) (done : Event R A × Board R S) : Type 0 where
    full : (row : R) → c ≡ Offer u row → done.0 ≡ Away u LineFull → 4 ≤ length (b.lines u) → done.1.lines u ≡ b.lines u → done.1.units u ≡ b.units u → Effect b u c done
    joins : (row : R) → c ≡ Offer u row → done.0 ≡ Joined u row → length (b.lines u) < 4 → done.1.lines u ≡ b.lines u ++ (row ∷ []) → done.1.units u ≡ b.units u → Effect b u c done
    serves : (row : R) → c ≡ Tick → done.0 ≡ Answered u (answer (b.units u) row) → b.lines u ≡ row ∷ done.1.lines u → done.1.units u ≡ next (b.units u) row → Effect b u c done
    elsewhere : names u done.0 ≡ false → done.1.lines u ≡ b.lines u → done.1.units u ≡ b.units u → Effect b u c done

  module _ (b : Board R S) (u : ℕ) (below : u ≤ 5) where
    offered_here : (row : R) → Effect b u (Offer u row) (act answer next b (Offer u row))
    unfolding act offer offer_row offer_verdict
    offered_here row = rw (le-ltb 5 u below) (go _ (leb 4 (length (b.lines u))) refl)
      where
        go : (turn : ℕ) (q : Bool) → leb 4 (length (b.lines u)) ≡ q
            → Effect b u (Offer u row) (offered answer next u row (cond q (Err LineFull) (Ok tt)), record { lines = lines_by (cond q (Err LineFull) (Ok tt)) b.lines u row; units = b.units; turn = turn })
        go turn true e = full row refl refl (leb-true 4 (length (b.lines u)) e) refl refl
        go turn false e = joins row refl refl (leb-false 4 (length (b.lines u)) e) (with_here b.lines u (b.lines u ++ (row ∷ []))) refl

    offered_elsewhere : (v : ℕ) (row : R) → eqb v u ≡ false → Effect b u (Offer v row) (act answer next b (Offer v row))
    unfolding act offer offer_row
    offered_elsewhere v row e = go _ (offer_verdict b.lines v)
      where
        go : (turn : ℕ) (verdict : Verdict) → Effect b u (Offer v row) (offered answer next v row verdict, record { lines = lines_by verdict b.lines v row; units = b.units; turn = turn })
        go turn (Ok tt) = elsewhere e (with_other b.lines v (b.lines v ++ (row ∷ [])) u e) refl
        go turn (Err refusal) = elsewhere e refl refl

    served_effect : (v : ℕ) (row : R) (rest : List R) (turn : ℕ) → b.lines v ≡ row ∷ rest
        → Effect b u Tick (Answered v (answer (b.units v) row), record { lines = with_unit b.lines v rest; units = with_unit b.units v (next (b.units v) row); turn = turn })
    served_effect v row rest turn w = go (eqb v u) refl
      where
        go : (q : Bool) → eqb v u ≡ q
            → Effect b u Tick (Answered v (answer (b.units v) row), record { lines = with_unit b.lines v rest; units = with_unit b.units v (next (b.units v) row); turn = turn })
        go true e =
            let same : v ≡ u = eqb-true v u e in
            rw same
            (serves row refl refl (ap b.lines (sym same) ∙ w ∙ ap (λ (l : List R). row ∷ l) (sym (with_here b.lines u rest))) (with_here b.units u (next (b.units u) row)))
        go false e = elsewhere e (with_other b.lines v rest u e) (with_other b.units v (next (b.units v) row) u e)

    ticked_effect : Effect b u Tick (act answer next b Tick)
    unfolding act tick serve_row
    ticked_effect = go (next_unit b.lines b.turn)
      where
        by : (v : ℕ) (line : List R) → b.lines v ≡ line
            → Effect b u Tick (ticked answer next (served_by answer next (leaves b.lines v line) b).0, (served_by answer next (leaves b.lines v line) b).1)
        by v [] w = elsewhere refl refl refl
        by v (row ∷ rest) w = served_effect v row rest _ w

        go : (found : Option ℕ) → Effect b u Tick (ticked answer next (served_by answer next (serve_by b.lines found) b).0, (served_by answer next (serve_by b.lines found) b).1)
        go None = elsewhere refl refl refl
        go (Some v) = by v (b.lines v) refl

    pub effect : (c : Command R) → Effect b u c (act answer next b c)
    effect (Offer v row) = go (eqb v u) refl
      where
        go : (q : Bool) → eqb v u ≡ q → Effect b u (Offer v row) (act answer next b (Offer v row))
        go true e = rw (eqb-true v u e) (offered_here row)
        go false e = offered_elsewhere v row e
    effect Tick = ticked_effect

    -- ---- a tick at which a row waits for unit u serves the unit, or brings it nearer to its turn
    pub served_or_nearer_at : waits b.lines u ≡ true → (names u (act answer next b Tick).0 ≡ true) ⊎ (ahead (act answer next b Tick).1.turn u < ahead b.turn u)
    unfolding act tick serve_row
    served_or_nearer_at w = go (next_unit b.lines b.turn) refl
      where
        by : (v : ℕ) (line : List R) → b.lines v ≡ line → (v ≡ u) ⊎ (ahead (suc v) u < ahead b.turn u) → next_unit b.lines b.turn ≡ Some v
            → (names u (ticked answer next (served_by answer next (leaves b.lines v line) b).0) ≡ true) ⊎ (ahead (served_by answer next (leaves b.lines v line) b).1.turn u < ahead b.turn u)
        by v [] e s f = absurd (let h : 0 < length (b.lines v) = has_row b.lines b.turn v f in omega (arith, h, ap length e))
        by v (row ∷ rest) e (inl same) f = inl (eq-eqb v u same)
        by v (row ∷ rest) e (inr near) f = inr near

        go : (found : Option ℕ) → next_unit b.lines b.turn ≡ found
            → (names u (ticked answer next (served_by answer next (serve_by b.lines found) b).0) ≡ true) ⊎ (ahead (served_by answer next (serve_by b.lines found) b).1.turn u < ahead b.turn u)
        go None e = absurd (some_waits b.lines b.turn u below w e)
        go (Some v) e = by v (b.lines v) refl (served_or_nearer b.lines b.turn u below w v e) e

  -- an offer leaves the turn as it is
  pub offer_turn : (b : Board R S) (v : ℕ) (row : R) → (act answer next b (Offer v row)).1.turn ≡ b.turn
  unfolding act offer
  offer_turn b v row = refl
