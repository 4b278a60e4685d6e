-- The window of the pressure is read off the list whole: the times of its points, and the sum up to each. Assumes nothing.
use mathlib.Core.Path.{◌≡◌, refl, sym, ap, ap₂, ◌∙◌}
use mathlib.Core.Bool.{Bool, true, false, not, ◌&&◌, cond, beq}
use mathlib.Core.List.{List, [], ◌∷◌, ◌++◌, drop_last, map, zip_with}
use lib.Dec.{T}
use lib.Ieee.{Float, le, lt, eq}
use lib.Ieee.Fits.{and_i, and_r}
use lib.Ieee.Scale.{finite}
use Rattle.reals.specs.Sign.{is_time, is_sign_negative}
use Rattle.reals.proofs.Truth.{is_true, is_false, holds, fails}
use Rattle.reals.proofs.FloatOrder.{lt_opposite, lt_le, lt_excludes, le_antisym}
use Rattle.past.specs.Stepped.{in_order}
use Rattle.past.specs.Whole.{state_after}
use Rattle.past.proofs.Stepped.{order_here, time_here}
use Rattle.past.proofs.Judged.{time_number}
use Rattle.moving_average.specs.Window.{Point, point, same_time, drop_old, ends_at, store}
use Rattle.moving_average.specs.State.{held, cutoff, moving_average_new}
use Rattle.moving_average.specs.Past.{time_accepted, accepted, moving_average_of}
use Rattle.moving_average.proofs.Accepted.{tail_accepted}
use Rattle.moving_average.proofs.Held.{held_stored}
use Rattle.moving_average.proofs.Reading.{window_reads}
use Rattle.relief_fan_group.specs.declared.types.ReliefRow.{ReliefRow}
use Rattle.relief_fan_group.specs.Step.{relief_fresh}
use Rattle.relief_fan_group.specs.Told.{relief_returned}
use Rattle.relief_fan_group.specs.Reading.{Past, time_of_row, pressure_of_row}
use Rattle.relief_fan_group.proofs.Blocks.{before}
use Rattle.relief_fan_group.proofs.Demand3.{accepted_good, state_after_lem}
use Rattle.relief_answers.specs.Latches.{taken}
use Rattle.relief_answers.specs.Sum.{pressure_sum, sum_up_to, window_points}
use Rattle.relief_answers.proofs.Runs.{not_below_itself}
use Rattle.relief_answers.proofs.Latches.{taken_in_order}
use Rattle.relief_answers.proofs.Points.{window, took, sum_here, window_accepted}

-- ---- what holds of every point
abbrev Each : (Point → Type 0) → List Point → Type 0
Each P [] = Unit {0}
Each P (p ∷ ps) = P p × Each P ps

each_wider : (P Q : Point → Type 0) → ((p : Point) → P p → Q p) → (ps : List Point) → Each P ps → Each Q ps
each_wider P Q f [] a = tt
each_wider P Q f (p ∷ ps) a = (f p a.0, each_wider P Q f ps a.1)

each_and_last : (P : Point → Type 0) (ps : List Point) (q : Point) → Each P ps → P q → Each P (ps ++ (q ∷ []))
each_and_last P [] q a b = (b, tt)
each_and_last P (p ∷ ps) q a b = (a.0, each_and_last P ps q a.1 b)

-- ---- the last point: dropping keeps it, and what is stored follows it or replaces it
record Dropped (P : Point → Type 0) (c : Float) (ps : List Point) (q : Point) : Type 0 where
  rest : List Point
  is : drop_old c (ps ++ (q ∷ [])) ≡ rest ++ (q ∷ [])
  each : Each P rest

dropped : (P : Point → Type 0) (c : Float) (ps : List Point) (q : Point) → Each P ps → Dropped P c ps q
unfolding drop_old
dropped P c [] q a = record { rest = []; is = refl; each = tt }
dropped P c (p ∷ []) q a = go (le q.time c) refl
  where
    go : (b : Bool) → le q.time c ≡ b → Dropped P c (p ∷ []) q
    go true e = record { rest = []; is = rw e refl; each = tt }
    go false e = record { rest = p ∷ []; is = rw e refl; each = a }
dropped P c (p ∷ (r ∷ ps)) q a = go (le r.time c) refl (dropped P c (r ∷ ps) q a.1)
  where
    go : (b : Bool) → le r.time c ≡ b → Dropped P c (r ∷ ps) q → Dropped P c (p ∷ (r ∷ ps)) q
    go true e d = record { rest = d.rest; is = rw e d.is; each = d.each }
    go false e d = record { rest = p ∷ (r ∷ ps); is = rw e refl; each = a }

ends_last : (t : Float) (ps : List Point) (q : Point) → ends_at t (ps ++ (q ∷ [])) ≡ same_time q.time t
unfolding ends_at
ends_last t [] q = refl
ends_last t (p ∷ []) q = refl
ends_last t (p ∷ (r ∷ ps)) q = ends_last t (r ∷ ps) q

but_last : (ps : List Point) (q : Point) → drop_last (ps ++ (q ∷ [])) ≡ ps
but_last [] q = refl
but_last (p ∷ []) q = refl
but_last (p ∷ (r ∷ ps)) q = ap (λ (l : List Point). p ∷ l) (but_last (r ∷ ps) q)

stored : (z : Point) (ps : List Point) (q : Point) (b : Bool) → same_time q.time z.time ≡ b
    → store z (ps ++ (q ∷ [])) ≡ cond b ps (ps ++ (q ∷ [])) ++ (z ∷ [])
unfolding store
stored z ps q true e = rw (ends_last z.time ps q, e, but_last ps q) refl
stored z ps q false e = rw (ends_last z.time ps q, e) refl

-- ---- the times of two rows in order, where they are not the same
later : (a b : Float) → T (is_time a) → T (is_time b) → T (le a b) → same_time a b ≡ false → T (lt a b)
later a b s t l e = rw (lt_opposite a b (time_number a s) (time_number b t)) (go (le b a) refl)
  where
    clear : (x : Float) → T (is_time x) → is_sign_negative x ≡ false
    clear x r = is_false (is_sign_negative x) (λ n. fails (not (is_sign_negative x)) (ap not (is_true (is_sign_negative x) n)) (and_r (finite x) (not (is_sign_negative x)) r))

    go : (c : Bool) → le b a ≡ c → T (not c)
    go true m = unfold same_time in absurd (fails (eq a b && beq (is_sign_negative a) (is_sign_negative b)) e (rw (clear a s, clear b t) (and_i (eq a b) true (le_antisym a b l (holds (le b a) m)) tt)))
    go false m = tt

-- ---- the window after a past: its last point is that of the row here, and every other is earlier and has the sum up to its time
abbrev Early : ReliefRow → Past → Point → Type 0
Early x h p = T (lt p.time x.time) × (p.integral ≡ sum_up_to (x ∷ h) p.time)

abbrev newest : ReliefRow → Past → Point
newest x h = point x.time (pressure_sum (x ∷ h))

record Shape (x : ReliefRow) (h : Past) : Type 0 where
  rest : List Point
  is : held (window (x ∷ h)) ≡ rest ++ (newest x h ∷ [])
  each : Each (Early x h) rest

-- a later row leaves the sums up to earlier times as they are
sum_kept : (z : ReliefRow) (h : Past) (t : Float) → T (lt t z.time) → sum_up_to (z ∷ h) t ≡ sum_up_to h t
unfolding sum_up_to
sum_kept z h t l = rw (is_false (le z.time t) (lt_excludes t z.time l)) refl

sum_at_newest : (x : ReliefRow) (h : Past) → T (is_time x.time) → sum_up_to (x ∷ h) x.time ≡ pressure_sum (x ∷ h)
unfolding sum_up_to
sum_at_newest x h a = rw (is_true (le x.time x.time) (not_below_itself x.time a)) refl

held_is : (x : ReliefRow) (h : Past) → T (accepted (map time_of_row (x ∷ h)))
    → held (window (x ∷ h)) ≡ store (newest x h) (drop_old (cutoff x.time) (held (window h)))
held_is x h a =
    ap held (took x h a) ∙ held_stored (window h) x.time x.pressure
    ∙ ap (λ (m : Float). store (point x.time m) (drop_old (cutoff x.time) (held (window h)))) (sum_here x h (tail_accepted x.time (map time_of_row h) a))

one_more : (z x : ReliefRow) (h : Past) → T (in_order time_of_row (z ∷ (x ∷ h)))
    → T (accepted (map time_of_row (z ∷ (x ∷ h)))) → Shape x h → Shape z (x ∷ h)
one_more z x h o a s = go (same_time x.time z.time) refl
  where
    d : Dropped (Early x h) (cutoff z.time) s.rest (newest x h)
    d = dropped (Early x h) (cutoff z.time) s.rest (newest x h) s.each

    x_time : T (is_time x.time)
    x_time = time_here time_of_row x h (before z (x ∷ h) o)

    is_now : (b : Bool) → same_time x.time z.time ≡ b
        → held (window (z ∷ (x ∷ h))) ≡ cond b d.rest (d.rest ++ (newest x h ∷ [])) ++ (newest z (x ∷ h) ∷ [])
    is_now b e =
        held_is z (x ∷ h) a ∙ ap (λ (ps : List Point). store (newest z (x ∷ h)) (drop_old (cutoff z.time) ps)) s.is ∙ ap (store (newest z (x ∷ h))) d.is
        ∙ stored (newest z (x ∷ h)) d.rest (newest x h) b e

    kept : Each (Early z (x ∷ h)) d.rest
    kept =
        each_wider (Early x h) (Early z (x ∷ h))
        (λ p e. let l = lt_le p.time x.time z.time e.0 (order_here time_of_row z (x ∷ h) o) in (l, e.1 ∙ sym (sum_kept z (x ∷ h) p.time l))) d.rest d.each

    go : (b : Bool) → same_time x.time z.time ≡ b → Shape z (x ∷ h)
    go true e = record { rest = d.rest; is = is_now true e; each = kept }
    go false e =
        let l = later x.time z.time x_time (time_here time_of_row z (x ∷ h) o) (order_here time_of_row z (x ∷ h) o) e in
        record {
          rest = d.rest ++ (newest x h ∷ []);
          is = is_now false e;
          each = each_and_last (Early z (x ∷ h)) d.rest (newest x h) kept (l, sym (sum_kept z (x ∷ h) x.time l ∙ sum_at_newest x h x_time));
        }

shape : (x : ReliefRow) (h : Past) → T (in_order time_of_row (x ∷ h)) → T (accepted (map time_of_row (x ∷ h))) → Shape x h
shape x [] o a = record { rest = []; is = held_is x [] a ∙ unfold moving_average_of moving_average_new held zip_with drop_old store ends_at in refl; each = tt }
shape z (x ∷ h) o a = one_more z x h o a (shape x h (before z (x ∷ h) o) (tail_accepted z.time (map time_of_row (x ∷ h)) a))

-- ---- so every point has the sum up to its time
abbrev Summed : Past → Point → Type 0
Summed h p = p.integral ≡ sum_up_to h p.time

summed : (h : Past) → T (in_order time_of_row h) → T (accepted (map time_of_row h)) → Each (Summed h) (held (window h))
summed [] o a = unfold moving_average_of moving_average_new held zip_with in tt
summed (x ∷ h) o a =
    let s = shape x h o a in
    rw s.is (each_and_last (Summed (x ∷ h)) s.rest (newest x h) (each_wider (Early x h) (Summed (x ∷ h)) (λ p e. e.1) s.rest s.each) (sym (sum_at_newest x h (time_here time_of_row x h o))))

each_dropped : (P : Point → Type 0) (c : Float) (ps : List Point) → Each P ps → Each P (drop_old c ps)
unfolding drop_old
each_dropped P c [] a = tt
each_dropped P c (p ∷ []) a = a
each_dropped P c (p ∷ (q ∷ ps)) a = go (le q.time c) (each_dropped P c (q ∷ ps) a.1)
  where
    go : (b : Bool) → Each P (drop_old c (q ∷ ps)) → Each P (cond b (drop_old c (q ∷ ps)) (p ∷ (q ∷ ps)))
    go true r = r
    go false r = a

points_are : (h : Past) (ps : List Point) → Each (Summed h) ps
    → ps ≡ map (λ t. point t (sum_up_to h t)) (map (λ p. p.time) ps)
points_are h [] a = refl
points_are h (p ∷ ps) a = ap₂ (λ (q : Point) (r : List Point). q ∷ r) (ap (point p.time) a.0) (points_are h ps a.1)

-- for every list of rows, refused ones included: the window of a run's state, after dropping for a row at t, is read off the list
pub points_read : (l : List ReliefRow) (t : Float) → T (time_accepted (map time_of_row (taken l)) t)
    → drop_old (cutoff t) (held (state_after relief_returned relief_fresh l).window) ≡ window_points (taken l) t
points_read l t b = rw (state_after_lem l)
    (points_are (taken l) (drop_old (cutoff t) (held (window (taken l)))) (each_dropped (Summed (taken l)) (cutoff t) (held (window (taken l))) (summed (taken l) (taken_in_order l) room))
    ∙ ap (map (λ t. point t (sum_up_to (taken l) t))) (window_reads time_of_row pressure_of_row (taken l) room t b))
  where
    room : T (accepted (map time_of_row (taken l)))
    room = window_accepted (taken l) (accepted_good l)
