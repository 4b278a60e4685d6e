-- The lines that counts and places stand for: what they are once a row has joined one, or has left it. Assumes nothing.
use Prim.Native.Nat.{ℕ, zero, suc, ◌+◌, ◌-◌, ◌≤◌, ◌<◌, min}
use native.Mathlib.Omega.{arith}
use mathlib.Core.Path.{◌≡◌, refl, sym, ap, ◌∙◌}
use mathlib.Core.Bool.{Bool, true, false, cond}
use mathlib.Core.List.{List, [], ◌∷◌, ◌++◌}
use lib.Dec.{eqb}
use lib.ListN.{length, get_or, set, take, drop}
use Rattle.std.proofs.lemmas.Bool.{eqb-true, eqb-false, ltb-true, lt-ltb, le-ltb, lt-leb, le-leb}
use Rattle.std.proofs.lemmas.List.{get_or-set_same, get_or-set_other, get_or-take, take_more_set, length-take, length-take-le}
use Rattle.std.proofs.lemmas.List.Folds.{find-append}
use Rattle.moving_average.proofs.Lists.{take_min}
use Rattle.std.proofs.Math.Seq.{drop-cons, take-nil}
use Rattle.std.specs.Prelude.{find, None, Some, Ok, Err}
use Rattle.refusals.specs.declared.Refusal.TheVariants.{NoUnit, LineFull}
use Rattle.board.specs.Lines.{unit_numbers, in_turn, with_unit, Lines, lines_of, offer_verdict, offer_row, waits, next_unit, leaves, serve_row}

-- of a list of what each unit has, one set anew
pub set_reads : {A : Type 0} (l : List A) (u : ℕ) (x d : A) → u < length l → (v : ℕ) → get_or (set l u x) v d ≡ with_unit (λ w. get_or l w d) u x v
unfolding with_unit
set_reads {A} l u x d h v = go (eqb v u) refl
  where
    go : (q : Bool) → eqb v u ≡ q → get_or (set l u x) v d ≡ cond q x (get_or l v d)
    go true e = ap (λ (w : ℕ). get_or (set l u x) w d) (eqb-true v u e) ∙ get_or-set_same l u x d h
    go false e = get_or-set_other l u v x d (eqb-false v u e)

module _ {R : Type 0} (counts : List ℕ) (rows : List (List R)) (u : ℕ) where
  -- a count and a line set anew
  pub lines_set : (count : ℕ) (line : List R) → u < length counts → u < length rows → lines_of (set counts u count) (set rows u line) ≡ with_unit (lines_of counts rows) u (take count line)
  unfolding lines_of with_unit
  lines_set count line h k = λ i v. go v (eqb v u) refl i
    where
      go : (v : ℕ) (q : Bool) → eqb v u ≡ q → take (get_or (set counts u count) v 0) (get_or (set rows u line) v []) ≡ cond q (take count line) (take (get_or counts v 0) (get_or rows v []))
      go v true e = rw (eqb-true v u e, get_or-set_same counts u count 0 h, get_or-set_same rows u line [] k) refl
      go v false e = rw (get_or-set_other counts u v count 0 (eqb-false v u e), get_or-set_other rows u v line [] (eqb-false v u e)) refl

-- ---- the units, one by one
pub unit_at : (i : ℕ) → i < 6 → get_or unit_numbers i 0 ≡ i
unit_at zero h = refl
unit_at (suc zero) h = refl
unit_at (suc (suc zero)) h = refl
unit_at (suc (suc (suc zero))) h = refl
unit_at (suc (suc (suc (suc zero)))) h = refl
unit_at (suc (suc (suc (suc (suc zero))))) h = refl
unit_at (suc (suc (suc (suc (suc (suc i)))))) h = absurd (omega arith)

between : (i to : ℕ) → i < to → to ≤ 6 → drop i (take to unit_numbers) ≡ i ∷ drop (suc i) (take to unit_numbers)
between i to h k =
    drop-cons (take to unit_numbers) i 0 (rw (length-take-le to unit_numbers k) h)
    ∙ ap (λ (u : ℕ). u ∷ drop (suc i) (take to unit_numbers)) (get_or-take to unit_numbers i 0 h ∙ unit_at i (omega (arith, h, k)))

-- the unit here is the first, where the test holds of it; else it is among those behind
pub found_here : (p : ℕ → Bool) (i to : ℕ) → i < to → to ≤ 6 → p i ≡ true → find p (drop i (take to unit_numbers)) ≡ Some i
found_here p i to h k e = rw (between i to h k, e) refl

pub found_behind : (p : ℕ → Bool) (i to : ℕ) → i < to → to ≤ 6 → p i ≡ false → find p (drop (i + 1) (take to unit_numbers)) ≡ find p (drop i (take to unit_numbers))
found_behind p i to h k e =
    let n : i + 1 ≡ suc i = omega arith in
    rw (between i to h k, e, n) refl

-- and of what is found the test holds
pub found_passes : (p : ℕ → Bool) (l : List ℕ) (u : ℕ) → find p l ≡ Some u → p u ≡ true
found_passes p [] u e = absurd (let z : ◌≡◌ {A = ℕ} 0 1 = cc in omega arith)
found_passes p (x ∷ l) u e = go (p x) refl (found_passes p l u) e
  where
    go : (q : Bool) → p x ≡ q → (find p l ≡ Some u → p u ≡ true) → cond q (Some x) (find p l) ≡ Some u → p u ≡ true
    go true f ih e = let same : x ≡ u = cc in ap p (sym same) ∙ f
    go false f ih e = ih e

module _ {R : Type 0} where
  -- ---- a row is offered
  module _ (lines : Lines R) (u : ℕ) (row : R) where
    pub no_unit : 5 < u → (Err NoUnit, lines) ≡ offer_row lines u row
    unfolding offer_row offer_verdict
    no_unit h = rw (lt-ltb 5 u h) refl

    pub line_full : u ≤ 5 → 4 ≤ length (lines u) → (Err LineFull, lines) ≡ offer_row lines u row
    unfolding offer_row offer_verdict
    line_full h k = rw (le-ltb 5 u h, le-leb 4 (length (lines u)) k) refl

    pub joins : u ≤ 5 → length (lines u) < 4 → (Ok tt, with_unit lines u (lines u ++ (row ∷ []))) ≡ offer_row lines u row
    unfolding offer_row offer_verdict
    joins h k = rw (le-ltb 5 u h, lt-leb 4 (length (lines u)) k) refl

  module _ (counts : List ℕ) (rows : List (List R)) (u : ℕ) (four : length (get_or rows u []) ≡ 4) where
    -- as many wait as are counted, of four at most
    pub counted : length (lines_of counts rows u) ≡ min (get_or counts u 0) 4
    unfolding lines_of
    counted = length-take (get_or counts u 0) (get_or rows u []) ∙ ap (λ (n : ℕ). min (get_or counts u 0) n) four

    one_more : (row : R) → get_or counts u 0 < 4 → take (get_or counts u 0 + 1) (set (get_or rows u []) (get_or counts u 0) row) ≡ lines_of counts rows u ++ (row ∷ [])
    unfolding lines_of
    one_more row h = take_more_set (get_or rows u []) (get_or counts u 0) row (rw four h)

    -- where fewer than four wait, the place behind them is free
    pub joined : (row : R) → u < length counts → u < length rows → length (lines_of counts rows u) < 4
        → lines_of (set counts u (length (lines_of counts rows u) + 1)) (set rows u (set (get_or rows u []) (length (lines_of counts rows u)) row))
        ≡ with_unit (lines_of counts rows) u (lines_of counts rows u ++ (row ∷ []))
    joined row h k w =
        let n : length (lines_of counts rows u) ≡ get_or counts u 0 = omega (arith, counted, w) in
        rw n
        (lines_set counts rows u (get_or counts u 0 + 1) (set (get_or rows u []) (get_or counts u 0) row) h k
        ∙ ap (λ (line : List R). with_unit (lines_of counts rows) u line) (one_more row (omega (arith, n, w))))

  -- ---- a row is served
  -- of a line of four places the first row leaves, and the others move up
  first_of : (line : List R) (n : ℕ) (d : R) → 0 < length (take n line) → take n line ≡ get_or line 0 d ∷ drop 1 (take n line)
  first_of [] zero d h = absurd (omega (arith, h))
  first_of [] (suc n) d h = absurd (omega (arith, h))
  first_of (a ∷ line) zero d h = absurd (omega (arith, h))
  first_of (a ∷ line) (suc n) d h = refl

  moved_up : (line : List R) (n : ℕ) (b c d : R) → length line ≡ 4 → 0 < length (take n line)
      → take (length (take n line) - 1) (get_or line 1 b ∷ get_or line 2 c ∷ get_or line 3 d ∷ get_or line 3 d ∷ []) ≡ drop 1 (take n line)
  moved_up [] n b c d h k = absurd (omega (arith, h))
  moved_up (x ∷ []) n b c d h k = absurd (omega (arith, h))
  moved_up (x ∷ y ∷ []) n b c d h k = absurd (omega (arith, h))
  moved_up (x ∷ y ∷ z ∷ []) n b c d h k = absurd (omega (arith, h))
  moved_up (x ∷ y ∷ z ∷ w ∷ []) zero b c d h k = absurd (omega (arith, k))
  moved_up (x ∷ y ∷ z ∷ w ∷ []) (suc zero) b c d h k = refl
  moved_up (x ∷ y ∷ z ∷ w ∷ []) (suc (suc zero)) b c d h k = refl
  moved_up (x ∷ y ∷ z ∷ w ∷ []) (suc (suc (suc zero))) b c d h k = refl
  moved_up (x ∷ y ∷ z ∷ w ∷ []) (suc (suc (suc (suc n)))) b c d h k = rw (take-nil {A = R} n) refl
  moved_up (x ∷ y ∷ z ∷ w ∷ v ∷ line) n b c d h k = absurd (omega (arith, h))

  pub serves_none : (lines : Lines R) (first : ℕ) → next_unit lines first ≡ None → (None, lines) ≡ serve_row lines first
  unfolding serve_row
  serves_none lines first e = rw e refl

  -- found among the units from the first on; or not, and so among those before it
  pub found_from : (lines : Lines R) (first u : ℕ) → Some u ≡ find (waits lines) (drop first (take 6 unit_numbers)) → Some u ≡ next_unit lines first
  unfolding next_unit
  found_from lines first u e = rw (find-append (waits lines) (drop first unit_numbers) (take first unit_numbers), ← e) refl

  pub found_before : (lines : Lines R) (first : ℕ) → None ≡ find (waits lines) (drop first (take 6 unit_numbers)) → find (waits lines) (drop 0 (take (min first 6) unit_numbers)) ≡ next_unit lines first
  unfolding next_unit
  found_before lines first e = rw (find-append (waits lines) (drop first unit_numbers) (take first unit_numbers), ← e) (ap (find (waits lines)) (take_min first unit_numbers))

  -- the unit that is served has a row
  pub has_row : (lines : Lines R) (first u : ℕ) → next_unit lines first ≡ Some u → 0 < length (lines u)
  unfolding next_unit
  has_row lines first u e = ltb-true 0 (length (lines u)) (found_passes (waits lines) (in_turn first) u e)

  module _ (counts : List ℕ) (rows : List (List R)) (u : ℕ) (four : length (get_or rows u []) ≡ 4) where
    first_waits : (a : R) → 0 < length (lines_of counts rows u) → lines_of counts rows u ≡ get_or (get_or rows u []) 0 a ∷ drop 1 (lines_of counts rows u)
    unfolding lines_of
    first_waits a h = first_of (get_or rows u []) (get_or counts u 0) a h

    left : (b c d : R) → 0 < length (lines_of counts rows u)
        → take (length (lines_of counts rows u) - 1) (get_or (get_or rows u []) 1 b ∷ get_or (get_or rows u []) 2 c ∷ get_or (get_or rows u []) 3 d ∷ get_or (get_or rows u []) 3 d ∷ [])
        ≡ drop 1 (lines_of counts rows u)
    unfolding lines_of
    left b c d h = moved_up (get_or rows u []) (get_or counts u 0) b c d four h

    pub serves_first : (first : ℕ) (a b c d : R) → next_unit (lines_of counts rows) first ≡ Some u → u < length counts → u < length rows
        → (
          Some (u, get_or (get_or rows u []) 0 a),
          lines_of (set counts u (length (lines_of counts rows u) - 1))
              (set rows u (get_or (get_or rows u []) 1 b ∷ get_or (get_or rows u []) 2 c ∷ get_or (get_or rows u []) 3 d ∷ get_or (get_or rows u []) 3 d ∷ [])),
        ) ≡ serve_row (lines_of counts rows) first
    unfolding serve_row
    serves_first first a b c d e h k =
        let w = has_row (lines_of counts rows) first u e in
        rw (
          e,
          lines_set counts rows u (length (lines_of counts rows u) - 1)
              (get_or (get_or rows u []) 1 b ∷ get_or (get_or rows u []) 2 c ∷ get_or (get_or rows u []) 3 d ∷ get_or (get_or rows u []) 3 d ∷ []) h k,
          left b c d w,
        )
        (sym (ap (leaves (lines_of counts rows) u) (first_waits a w)))
