-- Whose turn it is: with each unit that is served, every other one comes nearer to its turn. Assumes nothing.
use Prim.Native.Nat.{ℕ, zero, suc, ◌+◌, ◌-◌, ◌≤◌, ◌<◌, min}
use native.Mathlib.Omega.{arith}
use mathlib.Core.Path.{◌≡◌, refl, sym, ap, ◌∙◌}
use mathlib.Core.Bool.{Bool, true, false, cond, true≢false}
use mathlib.Core.List.{List, [], ◌∷◌}
use mathlib.Core.Logic.{◌⊎◌, inl, inr}
use lib.Dec.{leb, ltb}
use lib.ListN.{length, get_or, take, drop}
use Rattle.std.proofs.lemmas.Bool.{ltb-true, ltb-false, leb-true, leb-false, lt-ltb, le-ltb, lt-leb, le-leb}
use Rattle.std.proofs.lemmas.List.{get_or-take, get_or-drop, get_or_append_left, get_or-append_right, length-append, length-take, length-drop}
use Rattle.std.specs.Prelude.{find, None, Some}
use Rattle.board.specs.Lines.{unit_numbers, in_turn, Lines, waits, next_unit}
use Rattle.board.proofs.Places.{unit_at}

-- ---- what `find` finds
-- the place of what is found: the test holds there, and at no place before it
pub record FoundAt (p : ℕ → Bool) (l : List ℕ) (x : ℕ) : Type 0 where
  pub place : ℕ
  pub within : place < length l
  pub here : get_or l place 0 ≡ x
  pub passes : p x ≡ true
  pub before : (j : ℕ) → j < place → p (get_or l j 0) ≡ false

behind : (p : ℕ → Bool) (y : ℕ) (l : List ℕ) (x : ℕ) → p y ≡ false → FoundAt p l x → FoundAt p (y ∷ l) x
behind p y l x f r = record { place = suc r.place; within = omega (arith, r.within); here = r.here; passes = r.passes; before = earlier }
  where
    earlier : (j : ℕ) → j < suc r.place → p (get_or (y ∷ l) j 0) ≡ false
    earlier zero h = f
    earlier (suc j) h = r.before j (omega (arith, h))

pub found_at : (p : ℕ → Bool) (l : List ℕ) (x : ℕ) → find p l ≡ Some x → FoundAt p l x
found_at p [] x e = absurd (let z : ◌≡◌ {A = ℕ} 0 1 = cc in omega arith)
found_at p (y ∷ l) x e = go (p y) refl (found_at p l x) e
  where
    go : (q : Bool) → p y ≡ q → (find p l ≡ Some x → FoundAt p l x) → cond q (Some y) (find p l) ≡ Some x → FoundAt p (y ∷ l) x
    go true f ih e =
        let same : y ≡ x = cc in
        record { place = 0; within = omega arith; here = same; passes = ap p (sym same) ∙ f; before = λ j h. absurd (omega (arith, h)) }
    go false f ih e = behind p y l x f (ih e)

-- where the test holds somewhere, something is found
pub some_found : (p : ℕ → Bool) (l : List ℕ) (k : ℕ) → k < length l → p (get_or l k 0) ≡ true → find p l ≡ None → ⊥
some_found p [] k h t e = absurd (omega (arith, h))
some_found p (y ∷ l) k h t e = go (p y) refl k h t (some_found p l) e
  where
    go : (q : Bool) → p y ≡ q → (k : ℕ) → k < suc (length l) → p (get_or (y ∷ l) k 0) ≡ true → ((j : ℕ) → j < length l → p (get_or l j 0) ≡ true → find p l ≡ None → ⊥)
        → cond q (Some y) (find p l) ≡ None → ⊥
    go true f k h t ih e = let z : ◌≡◌ {A = ℕ} 0 1 = cc in omega arith
    go false f zero h t ih e = true≢false (sym t ∙ f)
    go false f (suc k) h t ih e = ih k (omega (arith, h)) t e

-- where it holds nowhere, nothing is
pub none_found : (p : ℕ → Bool) (l : List ℕ) → ((k : ℕ) → k < length l → p (get_or l k 0) ≡ false) → find p l ≡ None
none_found p [] h = refl
none_found p (y ∷ l) h = rw (h 0 (omega arith)) (none_found p l (λ k m. h (suc k) (omega (arith, m))))

-- ---- the order in which the units are asked
in_turn_length : (first : ℕ) → length (in_turn first) ≡ 6
in_turn_length first = length-append (drop first unit_numbers) (take first unit_numbers) ∙ rw (length-drop first unit_numbers, length-take first unit_numbers) (omega arith)

-- the unit that is asked k units after the first
unit_after : ℕ → ℕ → ℕ
unit_after first k = cond (ltb (min first 6 + k) 6) (min first 6 + k) (min first 6 + k - 6)

in_turn_at : (first k : ℕ) → k < 6 → get_or (in_turn first) k 0 ≡ unit_after first k
unfolding unit_after
in_turn_at first k h = go (ltb (min first 6 + k) 6) refl
  where
    go : (q : Bool) → ltb (min first 6 + k) 6 ≡ q → get_or (in_turn first) k 0 ≡ cond q (min first 6 + k) (min first 6 + k - 6)
    go true e =
        let l : min first 6 + k < 6 = ltb-true (min first 6 + k) 6 e in
        get_or_append_left (drop first unit_numbers) (take first unit_numbers) 0 k (rw (length-drop first unit_numbers) (omega (arith, l)))
        ∙ get_or-drop first unit_numbers k 0
        ∙ unit_at (first + k) (omega (arith, l))
        ∙ omega (arith, l)
    go false e =
        let l : 6 ≤ min first 6 + k = ltb-false (min first 6 + k) 6 e in
        get_or-append_right (drop first unit_numbers) (take first unit_numbers) (6 - first) k 0 (length-drop first unit_numbers) (omega (arith, l))
        ∙ get_or-take first unit_numbers (k - (6 - first)) 0 (omega (arith, l, h))
        ∙ unit_at (k - (6 - first)) (omega (arith, l, h))
        ∙ omega (arith, l, h)

-- how many units are asked before u
unfoldable pub ahead : ℕ → ℕ → ℕ
ahead first u = cond (leb (min first 6) u) (u - min first 6) (u + 6 - min first 6)

pub ahead_below : (first u : ℕ) → u ≤ 5 → ahead first u < 6
unfolding ahead
ahead_below first u h = go (leb (min first 6) u) refl
  where
    go : (q : Bool) → leb (min first 6) u ≡ q → cond q (u - min first 6) (u + 6 - min first 6) < 6
    go true e = omega (arith, h)
    go false e = omega (arith, h, leb-false (min first 6) u e)

asked_there : (first u : ℕ) → u ≤ 5 → unit_after first (ahead first u) ≡ u
unfolding ahead unit_after
asked_there first u h = go (leb (min first 6) u) refl
  where
    go : (q : Bool) → leb (min first 6) u ≡ q
        → cond (ltb (min first 6 + cond q (u - min first 6) (u + 6 - min first 6)) 6) (min first 6 + cond q (u - min first 6) (u + 6 - min first 6)) (min first 6 + cond q (u - min first 6) (u + 6 - min first 6) - 6) ≡ u
    go true e =
        let l : min first 6 ≤ u = leb-true (min first 6) u e in
        rw (lt-ltb (min first 6 + (u - min first 6)) 6 (omega (arith, l, h))) (omega (arith, l))
    go false e =
        let l : u < min first 6 = leb-false (min first 6) u e in
        rw (le-ltb (min first 6 + (u + 6 - min first 6)) 6 (omega (arith, l, h))) (omega (arith, l, h))

-- once the unit asked k units after the first is served, all asked after it are nearer
nearer_by : (first k u : ℕ) → u ≤ 5 → k < ahead first u → ahead (suc (unit_after first k)) u < ahead first u
unfolding ahead unit_after
nearer_by first k u h l = go (ltb (min first 6 + k) 6) refl (leb (min first 6) u) refl l
  where
    go : (p : Bool) → ltb (min first 6 + k) 6 ≡ p → (q : Bool) → leb (min first 6) u ≡ q → k < cond q (u - min first 6) (u + 6 - min first 6)
        → cond (leb (min (suc (cond p (min first 6 + k) (min first 6 + k - 6))) 6) u) (u - min (suc (cond p (min first 6 + k) (min first 6 + k - 6))) 6)
        (u + 6 - min (suc (cond p (min first 6 + k) (min first 6 + k - 6))) 6) < cond q (u - min first 6) (u + 6 - min first 6)
    go true e true f l = rw (le-leb (min (suc (min first 6 + k)) 6) u (omega (arith, l, h))) (omega (arith, l, h, leb-true (min first 6) u f))
    go true e false f l =
        rw (lt-leb (min (suc (min first 6 + k)) 6) u (omega (arith, l, h, leb-false (min first 6) u f, ltb-true (min first 6 + k) 6 e)))
        (omega (arith, l, h, leb-false (min first 6) u f, ltb-true (min first 6 + k) 6 e))
    go false e true f l = absurd (omega (arith, l, h, leb-true (min first 6) u f, ltb-false (min first 6 + k) 6 e))
    go false e false f l =
        rw (le-leb (min (suc (min first 6 + k - 6)) 6) u (omega (arith, l, h, leb-false (min first 6) u f, ltb-false (min first 6 + k) 6 e)))
        (omega (arith, l, h, leb-false (min first 6) u f, ltb-false (min first 6 + k) 6 e))

-- ---- the unit that is served
unit_after_below : (first k : ℕ) → k < 6 → unit_after first k ≤ 5
unfolding unit_after
unit_after_below first k h = go (ltb (min first 6 + k) 6) refl
  where
    go : (q : Bool) → ltb (min first 6 + k) 6 ≡ q → cond q (min first 6 + k) (min first 6 + k - 6) ≤ 5
    go true e = omega (arith, ltb-true (min first 6 + k) 6 e)
    go false e = omega (arith, h)

module _ {R : Type 0} (lines : Lines R) (first : ℕ) where
  within_six : (v : ℕ) (f : FoundAt (waits lines) (in_turn first) v) → f.place < 6
  within_six v f = omega (arith, f.within, in_turn_length first)

  served_there : (v : ℕ) (f : FoundAt (waits lines) (in_turn first) v) → unit_after first f.place ≡ v
  served_there v f = sym (in_turn_at first f.place (within_six v f)) ∙ f.here

  -- it is one of the six, and has a row
  pub served_below : (v : ℕ) → next_unit lines first ≡ Some v → v ≤ 5
  unfolding next_unit
  served_below v e =
      let f : FoundAt (waits lines) (in_turn first) v = found_at (waits lines) (in_turn first) v e in
      rw (served_there v f) at (unit_after_below first f.place (within_six v f))

  -- where no unit has a row none is served
  pub none_waits : ((u : ℕ) → u ≤ 5 → waits lines u ≡ false) → next_unit lines first ≡ None
  unfolding next_unit
  none_waits h =
      none_found (waits lines) (in_turn first)
      (λ k l.
      let m : k < 6 = omega (arith, l, in_turn_length first) in
      rw (in_turn_at first k m) (h (unit_after first k) (unit_after_below first k m)))

  module _ (u : ℕ) (below : u ≤ 5) (w : waits lines u ≡ true) where
    asked : waits lines (get_or (in_turn first) (ahead first u) 0) ≡ true
    asked = rw (in_turn_at first (ahead first u) (ahead_below first u below), asked_there first u below) w

    -- where a unit has a row one is served
    pub some_waits : next_unit lines first ≡ None → ⊥
    unfolding next_unit
    some_waits e = some_found (waits lines) (in_turn first) (ahead first u) (omega (arith, ahead_below first u below, in_turn_length first)) asked e

    -- that unit itself, or one that is asked before it, so that it comes nearer to its turn
    pub served_or_nearer : (v : ℕ) → next_unit lines first ≡ Some v → (v ≡ u) ⊎ (ahead (suc v) u < ahead first u)
    unfolding next_unit
    served_or_nearer v e = go (found_at (waits lines) (in_turn first) v e)
      where
        go : FoundAt (waits lines) (in_turn first) v → (v ≡ u) ⊎ (ahead (suc v) u < ahead first u)
        go f = by (ltb f.place (ahead first u)) refl
          where
            by : (q : Bool) → ltb f.place (ahead first u) ≡ q → (v ≡ u) ⊎ (ahead (suc v) u < ahead first u)
            by true l = inr (rw (served_there v f) at (nearer_by first f.place u below (ltb-true f.place (ahead first u) l)))
            by false l = inl (at_or_behind (ltb (ahead first u) f.place) refl)
              where
                at_or_behind : (q : Bool) → ltb (ahead first u) f.place ≡ q → v ≡ u
                at_or_behind true m = absurd (true≢false (sym asked ∙ f.before (ahead first u) (ltb-true (ahead first u) f.place m)))
                at_or_behind false m =
                    let same : f.place ≡ ahead first u = omega (arith, ltb-false f.place (ahead first u) l, ltb-false (ahead first u) f.place m) in
                    sym (served_there v f) ∙ ap (unit_after first) same ∙ asked_there first u below
