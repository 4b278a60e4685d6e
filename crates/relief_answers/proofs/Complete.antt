-- Nothing is left over: what becomes of every pulse, fan by fan, for every list of rows from a fresh start, refused ones included. Assumes nothing.
use Prim.Native.Nat.{ℕ, zero, suc, ◌<◌}
use native.Mathlib.Omega.{arith}
use mathlib.Core.Path.{◌≡◌, refl, ap, subst, ◌∙◌}
use mathlib.Core.Bool.{Bool, true, false, not, ◌&&◌, ◌||◌}
use mathlib.Core.List.{List, [], ◌∷◌}
use lib.Dec.{T, leb, leb→le, nleb→lt}
use lib.ListN.{drop}
use Rattle.reals.specs.Four.{flag}
use Rattle.reals.proofs.Four.{at_each}
use Rattle.reals.proofs.Truth.{holds, table1}
use Rattle.past.specs.Stepped.{in_order}
use Rattle.relief_fan_group.specs.declared.types.ReliefRow.{ReliefRow}
use Rattle.relief_fan_group.specs.Constants.{proof_time}
use Rattle.relief_fan_group.specs.Reading.{Past, time_of_row, up_pulse, down_pulse}
use Rattle.relief_fan_group.proofs.Blocks.{before}
use Rattle.relief_answers.specs.NextFan.{next_to_start, next_to_stop, fans_after_up, fans_after_down, off_after_down}
use Rattle.relief_answers.specs.Latches.{taken, supply_here, proof_here, proven, start_wanted, stop_wanted, start_due, stop_due, settled_up, settled_down, up_latch, down_latch}
use Rattle.relief_answers.specs.Ends.{steady, Ends, end_of, lost, stands, served, cut_short, GoesOn, commanded, proved, taken_off}
use Rattle.relief_answers.proofs.Flags.{no, some_fan_lem}
use Rattle.relief_answers.proofs.Runs.{run_goes_on}
use Rattle.relief_answers.proofs.Latches.{taken_in_order}
use Rattle.relief_answers.proofs.Directions.{Direction, latch, due, done, upward, downward, kept_on, sets, at_settled, due_is, served_at, fan_stays}

module _ (d : Direction) (i : ℕ) (b : i < 4) where
  -- ---- any pulse
  abbrev E : ℕ → Past → Type 0
  E k h = Ends d.settled (latch d) (due d i) (done d i) k h

  further : (k : ℕ) (x : ReliefRow) (h : Past) → E k h → E (suc k) (x ∷ h)
  further k x h (lost c) = lost c
  further k x h (stands l f) = go (d.settled (x ∷ h)) (done d i (x ∷ h)) refl refl
    where
      more : d.settled (x ∷ h) ≡ false → (j : ℕ) → j < suc (suc k) → d.settled (drop j (x ∷ h)) ≡ false
      more c zero b = c
      more c (suc j) b = f j (omega arith)

      later : (m : ℕ) → 0 < m → m < suc (suc k) → d.settled (drop m (x ∷ h)) ≡ false
      later zero a b = absurd (omega arith)
      later (suc m) a b = f m (omega arith)

      go : (c e : Bool) → d.settled (x ∷ h) ≡ c → done d i (x ∷ h) ≡ e → E (suc k) (x ∷ h)
      go false e p q = stands (kept_on d x h l p) (more p)
      go true true p q = served 0 (omega arith) p later q (at_settled d (x ∷ h) p i b ∙ q)
      go true false p q = cut_short 0 (omega arith) p later q (at_settled d (x ∷ h) p i b ∙ q)
  further k x h (served j w c f p q) = served (suc j) (omega arith) c (λ m. later m) p q
    where
      later : (m : ℕ) → suc j < m → m < suc (suc k) → d.settled (drop m (x ∷ h)) ≡ false
      later zero a b = absurd (omega arith)
      later (suc m) a b = f m (omega arith) (omega arith)
  further k x h (cut_short j w c f p q) = cut_short (suc j) (omega arith) c (λ m. later m) p q
    where
      later : (m : ℕ) → suc j < m → m < suc (suc k) → d.settled (drop m (x ∷ h)) ≡ false
      later zero a b = absurd (omega arith)
      later (suc m) a b = f m (omega arith) (omega arith)

  ends : (k : ℕ) (h : Past) → T (in_order time_of_row h) → d.set (drop k h) ≡ true → E k h
  ends zero [] o p = no p d.none
  ends (suc k) [] o p = no p d.none
  ends zero (x ∷ h) o p = go (d.settled (x ∷ h)) refl
    where
      only : d.settled (x ∷ h) ≡ false → (j : ℕ) → j < 1 → d.settled (drop j (x ∷ h)) ≡ false
      only c zero b = c
      only c (suc j) b = absurd (omega arith)

      go : (c : Bool) → d.settled (x ∷ h) ≡ c → E 0 (x ∷ h)
      go true c = lost c
      go false c = stands (sets d (x ∷ h) o p ∙ ap not c) (only c)
  ends (suc k) (x ∷ h) o p = further k x h (ends k h (before x h o) p)

  -- ---- a pulse after 2 s without a change that names the fan: it is commanded until it is so, unless the table changes
  abbrev G : ℕ → Past → Type 0
  G k h = GoesOn d.settled (latch d) (d.wanted i) (due d i) (done d i) k h

  one_more : (k : ℕ) (x : ReliefRow) (h : Past) → T (in_order time_of_row (x ∷ h)) → G k h → G (suc k) (x ∷ h)
  one_more k x h o (commanded l w r) = go (d.wanted i (x ∷ h)) (done d i (x ∷ h)) (d.settled (x ∷ h)) refl refl refl
    where
      go : (w p c : Bool) → d.wanted i (x ∷ h) ≡ w → done d i (x ∷ h) ≡ p → d.settled (x ∷ h) ≡ c → G (suc k) (x ∷ h)
      go false p c e q s = taken_off 0 (omega arith) e
      go true true true e q s = proved 0 (omega arith) s q
      go true true false e q s = commanded (kept_on d x h l s) e (run_goes_on time_of_row (d.wanted i) (d.wanted_none i) proof_time x h o r e)
      go true false c e q s = let z = fan_stays d i b x h o (e, q) (l, r) in commanded z.0 e z.1
  one_more k x h o (proved j w c p) = proved (suc j) (omega arith) c p
  one_more k x h o (taken_off j w e) = taken_off (suc j) (omega arith) e

  goes : (wants : (s p : List Bool) → flag (d.next s p) i ≡ true → flag (d.table s p) i ≡ true) (k : ℕ) (h : Past)
      → T (in_order time_of_row h) → d.set (drop k h) ≡ true → steady (drop k h) ≡ true
      → flag (d.next (supply_here (drop k h)) (proof_here (drop k h))) i ≡ true → G k h
  goes wants zero [] o p r n = no p d.none
  goes wants (suc k) [] o p r n = no p d.none
  goes wants zero (x ∷ h) o p r n =
      let named = wants x.supply x.proof n in
      commanded (served_at d (x ∷ h) o p r ∙ some_fan_lem (d.next x.supply x.proof) i b n) (d.wanted_is i x h ∙ named) (due_is d x.supply x.proof x h o r i ∙ named)
  goes wants (suc k) (x ∷ h) o p r n = one_more k x h o (goes wants k h (before x h o) p r n)

  -- the next fans are among those that the stage has on (off)
  up_wants : (s p : List Bool) → flag (next_to_start s p) i ≡ true → flag (fans_after_up s p) i ≡ true
  unfolding fans_after_up
  up_wants s p e = at_each (λ i. flag p i || flag (next_to_start s p) i) false i b ∙ rw e (table1 (λ a. a || true) (λ a. true) tt (flag p i))

  down_wants : (s p : List Bool) → flag (next_to_stop s p) i ≡ true → flag (off_after_down s p) i ≡ true
  unfolding fans_after_down
  down_wants s p e = at_each (λ i. not (flag (fans_after_down s p) i)) false i b ∙ ap not (at_each (λ i. flag p i && not (flag (next_to_stop s p) i)) false i b) ∙ rw e (table1 (λ a. not (a && false)) (λ a. true) tt (flag p i))

-- ---- every pulse, for each fan: lost on its own row; standing; or, at the first settled row after it, served or cut short
pub up_ends : (i : ℕ) → i < 4 → (k : ℕ) (l : List ReliefRow) → up_pulse (drop k (taken l)) ≡ true
    → Ends settled_up up_latch (start_due i) (proven i) k (taken l)
unfolding upward
up_ends i b k l p = ends upward i b k (taken l) (taken_in_order l) p

pub down_ends : (i : ℕ) → i < 4 → (k : ℕ) (l : List ReliefRow) → down_pulse (drop k (taken l)) ≡ true
    → Ends settled_down down_latch (stop_due i) (λ h. not (proven i h)) k (taken l)
unfolding downward
down_ends i b k l p = ends downward i b k (taken l) (taken_in_order l) p

-- and it is one of them only
module _ (settled : Past → Bool) (k : ℕ) (h : Past) where
  -- the first settled row after a pulse is one row
  same_row : (i j : ℕ) → i < k → j < k → settled (drop i h) ≡ true → settled (drop j h) ≡ true
      → ((m : ℕ) → i < m → m < suc k → settled (drop m h) ≡ false)
      → ((m : ℕ) → j < m → m < suc k → settled (drop m h) ≡ false) → i ≡ j
  same_row i j a b c d f g = go (leb i j) (leb j i) refl refl
    where
      go : (p q : Bool) → leb i j ≡ p → leb j i ≡ q → i ≡ j
      go true true p q = let x = leb→le i j (holds (leb i j) p) in let y = leb→le j i (holds (leb j i) q) in omega (arith, x, y)
      go false q p r = no c (g i (nleb→lt i j (rw p tt)) (omega (arith, a)))
      go true false p q = no d (f j (nleb→lt j i (rw q tt)) (omega (arith, b)))

  module _ (latch due done : Past → Bool) where
    pub one_end : (x y : Ends settled latch due done k h) → end_of x ≡ end_of y
    one_end (lost c) (lost d) = refl
    one_end (lost c) (stands l f) = no c (f k (omega arith))
    one_end (lost c) (served j w d f p q) = no c (f k w (omega arith))
    one_end (lost c) (cut_short j w d f p q) = no c (f k w (omega arith))
    one_end (stands l f) (lost c) = no c (f k (omega arith))
    one_end (stands l f) (stands m g) = refl
    one_end (stands l f) (served j w d g p q) = no d (f j (omega (arith, w)))
    one_end (stands l f) (cut_short j w d g p q) = no d (f j (omega (arith, w)))
    one_end (served j w d f p q) (lost c) = no c (f k w (omega arith))
    one_end (served j w d g p q) (stands l f) = no d (f j (omega (arith, w)))
    one_end (served j w d f p q) (served i v e g r s) = refl
    one_end (served j w d f p q) (cut_short i v e g r s) = no (subst (λ (m : ℕ). done (drop m h) ≡ true) (same_row j i w v d e f g) p) r
    one_end (cut_short j w d f p q) (lost c) = no c (f k w (omega arith))
    one_end (cut_short j w d g p q) (stands l f) = no d (f j (omega (arith, w)))
    one_end (cut_short j w d f p q) (served i v e g r s) = no r (subst (λ (m : ℕ). done (drop m h) ≡ false) (same_row j i w v d e f g) p)
    one_end (cut_short j w d f p q) (cut_short i v e g r s) = refl

-- ---- every steady pulse that names the fan: still commanded, proved at a row, or taken off the table at a row
pub up_goes_on : (i : ℕ) → i < 4 → (k : ℕ) (l : List ReliefRow) → up_pulse (drop k (taken l)) ≡ true
    → steady (drop k (taken l)) ≡ true
    → flag (next_to_start (supply_here (drop k (taken l))) (proof_here (drop k (taken l)))) i ≡ true
    → GoesOn settled_up up_latch (start_wanted i) (start_due i) (proven i) k (taken l)
unfolding upward
up_goes_on i b k l p r n = goes upward i b (up_wants upward i b) k (taken l) (taken_in_order l) p r n

pub down_goes_on : (i : ℕ) → i < 4 → (k : ℕ) (l : List ReliefRow) → down_pulse (drop k (taken l)) ≡ true
    → steady (drop k (taken l)) ≡ true
    → flag (next_to_stop (supply_here (drop k (taken l))) (proof_here (drop k (taken l)))) i ≡ true
    → GoesOn settled_down down_latch (stop_wanted i) (stop_due i) (λ h. not (proven i h)) k (taken l)
unfolding downward
down_goes_on i b k l p r n = goes downward i b (down_wants downward i b) k (taken l) (taken_in_order l) p r n
