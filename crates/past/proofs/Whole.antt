-- The theorem over whole lists, once for all sequences: where the state is a function of the accepted rows, a run from a fresh state gives at every place what
-- the list alone tells there. And pasts in which every row is accepted after those before it. Assumes nothing.
use Rattle.std.specs.Prelude.{Ok, Err}
use Prim.Native.Nat.{ℕ, zero, suc, ◌<◌}
use native.Mathlib.Nat.{not-suc-le-zero, le_of_suc-le-suc}
use mathlib.Core.Path.{◌≡◌, refl, ◌∙◌}
use mathlib.Core.Bool.{Bool, true, false, ◌&&◌}
use mathlib.Core.List.{List, [], ◌∷◌, reverse_aux}
use lib.Dec.{T}
use lib.Ieee.Fits.{and_i, and_l, and_r}
use lib.ListN.{length, get_or, take}
use Rattle.refusals.specs.Refusals.{Verdict}
use Rattle.logical.specs.Run.{run}
use Rattle.past.specs.Whole.{Told, told_by, next_by, state_after, accepted, read_at, read_all}

-- what each accepted row keeps holds of the accepted rows of every list
module _ {R : Type 0} (verdict : List R → R → Verdict) (good : List R → Bool)
    (Good-none : T (good []))
    (Good-more : (x : R) (h : List R) → T (good h) → verdict h x ≡ Ok tt → T (good (x ∷ h))) where
  pub good_accepted : (l : List R) → T (good (accepted verdict l))
  unfolding accepted
  good_accepted [] = Good-none
  good_accepted (x ∷ l) = go (verdict (accepted verdict l) x) (Good-more x (accepted verdict l) (good_accepted l)) (good_accepted l)
    where
      go : (v : Verdict) → (v ≡ Ok tt → T (good (x ∷ accepted verdict l))) → T (good (accepted verdict l)) → T (good (next_by v (x ∷ accepted verdict l) (accepted verdict l)))
      go (Ok tt) f g = f refl
      go (Err r) f g = g

-- a verdict is that the row is accepted
abbrev pub accepts : Verdict → Bool
accepts (Ok v) = true
accepts (Err r) = false

accepts_ok : (v : Verdict) → T (accepts v) → v ≡ Ok tt
accepts_ok (Ok v) t = refl
accepts_ok (Err r) t = absurd t

-- every row of a past is accepted after those before it, as the accepted rows of a list are
module _ {R : Type 0} (verdict : List R → R → Verdict) where
  unfoldable pub all_accepted : List R → Bool
  all_accepted [] = true
  all_accepted (x ∷ h) = accepts (verdict h x) && all_accepted h

  pub none_accepted : T (all_accepted [])
  unfolding all_accepted
  none_accepted = tt

  pub one_more_accepted : (x : R) (h : List R) → T (all_accepted h) → verdict h x ≡ Ok tt → T (all_accepted (x ∷ h))
  unfolding all_accepted
  one_more_accepted x h a e = and_i (accepts (verdict h x)) (all_accepted h) (rw e tt) a

  pub accepted_here : (x : R) (h : List R) → T (all_accepted (x ∷ h)) → verdict h x ≡ Ok tt
  unfolding all_accepted
  accepted_here x h a = accepts_ok (verdict h x) (and_l (accepts (verdict h x)) (all_accepted h) a)

  pub accepted_before : (x : R) (h : List R) → T (all_accepted (x ∷ h)) → T (all_accepted h)
  unfolding all_accepted
  accepted_before x h a = and_r (accepts (verdict h x)) (all_accepted h) a

  -- so nothing is left out of such a past
  pub accepted_whole : (h : List R) → T (all_accepted h) → accepted verdict h ≡ h
  unfolding accepted
  accepted_whole [] a = refl
  accepted_whole (x ∷ h) a = rw (accepted_whole h (accepted_before x h a), accepted_here x h a) refl

  -- one more row that is accepted after such a past
  pub whole_more : (x : R) (h : List R) → accepted verdict h ≡ h → verdict h x ≡ Ok tt → accepted verdict (x ∷ h) ≡ x ∷ h
  unfolding accepted
  whole_more x h w e = rw (w, e) refl

  pub accepted_all : (l : List R) → T (all_accepted (accepted verdict l))
  accepted_all = good_accepted verdict all_accepted none_accepted one_more_accepted

-- S is the state, R the row and Y what is read; `good` says what holds of accepted rows
module _ {S R Y : Type 0}
    (verdict : List R → R → Verdict) (good : List R → Bool) (read : List R → Y)
    (answer : S → R → Told Y) (next : S → R → S) (state_of : List R → S)
    (Good-none : T (good []))
    (Good-more : (x : R) (h : List R) → T (good h) → verdict h x ≡ Ok tt → T (good (x ∷ h)))
    (answers : (x : R) (h : List R) → T (good h) → answer (state_of h) x ≡ told_by (verdict h x) (read (x ∷ h)))
    (moves : (x : R) (h : List R) → T (good h) → next (state_of h) x ≡ next_by (verdict h x) (state_of (x ∷ h)) (state_of h)) where
  pub state_after_lem : (x : R) (l : List R) → next (state_of (accepted verdict l)) x ≡ state_of (accepted verdict (x ∷ l))
  unfolding accepted
  state_after_lem x l = moves x (accepted verdict l) (good_accepted verdict good Good-none Good-more l) ∙ go (verdict (accepted verdict l) x)
    where
      go : (v : Verdict) → next_by v (state_of (x ∷ accepted verdict l)) (state_of (accepted verdict l)) ≡ state_of (next_by v (x ∷ accepted verdict l) (accepted verdict l))
      go (Ok tt) = refl
      go (Err r) = refl

  -- the state that a run hands to a row is that of the accepted rows before
  pub state_is : (l : List R) → state_after next (state_of []) l ≡ state_of (accepted verdict l)
  unfolding state_after
  state_is [] = unfold accepted in refl
  state_is (x ∷ l) = rw (state_is l) (state_after_lem x l)

  run_from : (l rows : List R) → run answer next (state_of (accepted verdict l)) rows ≡ read_all verdict read l rows
  unfolding run read_all
  run_from l [] = refl
  run_from l (x ∷ rows) = rw (answers x (accepted verdict l) (good_accepted verdict good Good-none Good-more l), state_after_lem x l, run_from (x ∷ l) rows) refl

  -- for every list of rows
  pub run_reads : (rows : List R) → run answer next (state_of []) rows ≡ read_all verdict read [] rows
  run_reads rows = unfold accepted in run_from [] rows

-- and at every place of it: place i gets what the rows 0 to i tell
module _ {R Y : Type 0} (verdict : List R → R → Verdict) (read : List R → Y) where
  -- what the newest of a list of rows is told; before all rows there is nothing, and `other` stands there
  abbrev pub read_newest : Told Y → List R → Told Y
  read_newest other [] = other
  read_newest other (x ∷ l) = read_at verdict read x l

  pub read_at_lem : (other : Told Y) (l rows : List R) (i : ℕ) → i < length rows → get_or (read_all verdict read l rows) i other ≡ read_newest other (reverse_aux (take (suc i) rows) l)
  unfolding read_all
  read_at_lem other l [] i h = absurd (not-suc-le-zero h)
  read_at_lem other l (x ∷ rows) zero h = refl
  read_at_lem other l (x ∷ rows) (suc i) h = read_at_lem other (x ∷ l) rows i (le_of_suc-le-suc h)
