-- The window of the pressure: every point is a time that is not after the newest row, and the sum that the state holds is that of the list. Assumes nothing.
use mathlib.Core.Path.{◌≡◌, refl, ap, ◌∙◌}
use mathlib.Core.Bool.{Bool, true, false, ◌&&◌, cond}
use mathlib.Core.List.{List, [], ◌∷◌, ◌++◌, drop_last, map, zip_with}
use lib.Dec.{T}
use lib.Ieee.{Float, le}
use lib.Ieee.Fits.{and_i, and_l, and_r}
use Rattle.reals.specs.Seen.{seen_elapsed}
use Rattle.reals.specs.Sign.{is_time}
use Rattle.reals.proofs.FloatOrder.{le_trans}
use Rattle.past.specs.Runs.{time_of}
use Rattle.past.specs.Stepped.{in_order}
use Rattle.past.specs.Acceptance.{last_time}
use Rattle.past.specs.Whole.{state_after}
use Rattle.past.proofs.Stepped.{order_here, time_here}
use Rattle.moving_average.specs.declared.state.MovingAverageState.{MovingAverageState}
use Rattle.moving_average.specs.Window.{Point, point, drop_old, ends_at, store}
use Rattle.moving_average.specs.State.{held, cutoff, mu_now, moving_average_is_full, moving_average_stored, moving_average_update, moving_average_new}
use Rattle.moving_average.specs.Past.{accepted, moving_average_of}
use Rattle.moving_average.proofs.Accepted.{head_accepted, head_room, tail_accepted}
use Rattle.moving_average.proofs.Reading.{is_full_reads}
use Rattle.moving_average.proofs.Held.{held_stored}
use Rattle.relief_fan_group.specs.declared.types.ReliefRow.{ReliefRow}
use Rattle.relief_fan_group.specs.Step.{relief_fresh}
use Rattle.relief_fan_group.specs.Told.{relief_returned}
use Rattle.relief_fan_group.specs.Reading.{Past, time_of_row, pressure_of_row}
use Rattle.relief_fan_group.proofs.Blocks.{before}
use Rattle.relief_fan_group.proofs.Demand3.{good, accepted_good, state_after_lem}
use Rattle.relief_answers.specs.Latches.{taken}
use Rattle.relief_answers.specs.Sum.{gap_after, pressure_sum}
use Rattle.relief_answers.proofs.Runs.{not_below_itself}

-- ---- a test that all points of a window pass
abbrev pub all : (Point → Bool) → List Point → Bool
all f [] = true
all f (p ∷ ps) = f p && all f ps

all_append : (f : Point → Bool) (ps qs : List Point) → T (all f ps) → T (all f qs) → T (all f (ps ++ qs))
all_append f [] qs a b = b
all_append f (p ∷ ps) qs a b = and_i (f p) (all f (ps ++ qs)) (and_l (f p) (all f ps) a) (all_append f ps qs (and_r (f p) (all f ps) a) b)

all_drop_last : (f : Point → Bool) (ps : List Point) → T (all f ps) → T (all f (drop_last ps))
all_drop_last f [] a = tt
all_drop_last f (p ∷ []) a = tt
all_drop_last f (p ∷ (q ∷ ps)) a = and_i (f p) (all f (drop_last (q ∷ ps))) (and_l (f p) (all f (q ∷ ps)) a) (all_drop_last f (q ∷ ps) (and_r (f p) (all f (q ∷ ps)) a))

all_drop_old : (f : Point → Bool) (c : Float) (ps : List Point) → T (all f ps) → T (all f (drop_old c ps))
unfolding drop_old
all_drop_old f c [] a = tt
all_drop_old f c (p ∷ []) a = a
all_drop_old f c (p ∷ (q ∷ ps)) a = go (le q.time c) (all_drop_old f c (q ∷ ps) (and_r (f p) (all f (q ∷ ps)) a))
  where
    go : (b : Bool) → T (all f (drop_old c (q ∷ ps))) → T (all f (cond b (drop_old c (q ∷ ps)) (p ∷ (q ∷ ps))))
    go true r = r
    go false r = a

all_store : (f : Point → Bool) (p : Point) (ps : List Point) → T (f p) → T (all f ps) → T (all f (store p ps))
unfolding store
all_store f p ps h a = all_append f (cond (ends_at p.time ps) (drop_last ps) ps) (p ∷ []) (go (ends_at p.time ps)) (and_i (f p) true h tt)
  where
    go : (b : Bool) → T (all f (cond b (drop_last ps) ps))
    go true = all_drop_last f ps a
    go false = a

-- a row leaves every point so, if its own is so
pub all_update : (f : Point → Bool) (s : MovingAverageState) (t input : Float)
    → T (f (point t (mu_now s.prev_t s.mu t input))) → T (all f (held s))
    → T (all f (held (moving_average_update s t input)))
unfolding moving_average_update
all_update f s t input h a = go (moving_average_is_full s t)
  where
    go : (b : Bool) → T (all f (held (cond b s (moving_average_stored s t input))))
    go true = a
    go false = rw (held_stored s t input) (all_store f (point t (mu_now s.prev_t s.mu t input)) (drop_old (cutoff t) (held s)) h (all_drop_old f (cutoff t) (held s) a))

pub all_wider : (f g : Point → Bool) → ((p : Point) → T (f p) → T (g p)) → (ps : List Point) → T (all f ps)
    → T (all g ps)
all_wider f g i [] a = tt
all_wider f g i (p ∷ ps) a = and_i (g p) (all g ps) (i p (and_l (f p) (all f ps) a)) (all_wider f g i ps (and_r (f p) (all f ps) a))

-- ---- every point is a time, none after the newest row
abbrev pub old : Float → Point → Bool
old t p = is_time p.time && le p.time t

-- the state of the mean after a past
abbrev pub window : Past → MovingAverageState
window h = moving_average_of time_of_row pressure_of_row h

pub old_points : (h : Past) → T (in_order time_of_row h) → T (all (old (time_of time_of_row h)) (held (window h)))
unfolding moving_average_of
old_points [] o = unfold held moving_average_new zip_with in tt
old_points (x ∷ []) o =
    all_update (old x.time) (window []) x.time x.pressure (and_i (is_time x.time) (le x.time x.time) (time_here time_of_row x [] o) (not_below_itself x.time (time_here time_of_row x [] o)))
    (unfold held moving_average_new zip_with in tt)
old_points (x ∷ (y ∷ h)) o =
    all_update (old x.time) (window (y ∷ h)) x.time x.pressure
    (and_i (is_time x.time) (le x.time x.time) (time_here time_of_row x (y ∷ h) o) (not_below_itself x.time (time_here time_of_row x (y ∷ h) o)))
    (all_wider (old y.time) (old x.time)
    (λ p a. and_i (is_time p.time) (le p.time x.time) (and_l (is_time p.time) (le p.time y.time) a)
    (le_trans p.time y.time x.time (and_r (is_time p.time) (le p.time y.time) a) (order_here time_of_row x (y ∷ h) o)))
    (held (window (y ∷ h))) (old_points (y ∷ h) (before x (y ∷ h) o)))

-- ---- the sum that the state holds
module _ (x : ReliefRow) (h : Past) (a : T (accepted (map time_of_row (x ∷ h)))) where
  pub took : window (x ∷ h) ≡ moving_average_stored (window h) x.time x.pressure
  unfolding moving_average_of moving_average_update
  took =
      rw (is_full_reads time_of_row pressure_of_row h (tail_accepted x.time (map time_of_row h) a) x.time (head_accepted x.time (map time_of_row h) a), head_room x.time (map time_of_row h) a) refl

last_is_lem : (h : Past) → T (accepted (map time_of_row h)) → (window h).prev_t ≡ last_time time_of_row h
last_is_lem [] a = unfold moving_average_of moving_average_new in refl
last_is_lem (x ∷ h) a = ap (λ (s : MovingAverageState). s.prev_t) (took x h a) ∙ unfold moving_average_stored in refl

-- the sum that a row is worked from
abbrev pub sum_at : ReliefRow → Past → Float
sum_at x h = mu_now (window h).prev_t (window h).mu x.time x.pressure

sum_from : (x : ReliefRow) (h : Past) → T (accepted (map time_of_row h)) → (window h).mu ≡ pressure_sum h
    → sum_at x h ≡ pressure_sum (x ∷ h)
unfolding pressure_sum mu_now seen_elapsed
sum_from x h a e = rw (e, last_is_lem h a, gap h) refl
  where
    gap : (h : Past) → seen_elapsed (last_time time_of_row h) x.time ≡ gap_after x h
    gap [] = refl
    gap (y ∷ h) = refl

sum_is : (h : Past) → T (accepted (map time_of_row h)) → (window h).mu ≡ pressure_sum h
unfolding moving_average_stored
sum_is [] a = unfold moving_average_of moving_average_new pressure_sum in refl
sum_is (x ∷ h) a =
    let t = tail_accepted x.time (map time_of_row h) a in
    ap (λ (s : MovingAverageState). s.mu) (took x h a) ∙ sum_from x h t (sum_is h t)

pub sum_here : (x : ReliefRow) (h : Past) → T (accepted (map time_of_row h)) → sum_at x h ≡ pressure_sum (x ∷ h)
sum_here x h a = sum_from x h a (sum_is h a)

pub window_accepted : (h : Past) → T (good h) → T (accepted (map time_of_row h))
window_accepted h g = and_r (in_order time_of_row h) (accepted (map time_of_row h)) g

-- for every list of rows, refused ones included: the sum that a run's state holds is read off the list
pub sum_read : (l : List ReliefRow) → (state_after relief_returned relief_fresh l).window.mu ≡ pressure_sum (taken l)
sum_read l = rw (state_after_lem l) (sum_is (taken l) (window_accepted (taken l) (accepted_good l)))
