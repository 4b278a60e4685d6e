-- The window of the state that accepted rows lead to, and whether it has room, are read off the times of those rows alone. Assumes nothing.
use Prim.Native.Nat.{suc, ◌≤◌}
use native.Mathlib.Omega.{arith}
use mathlib.Core.Path.{◌≡◌, refl, sym, ap, ◌∙◌}
use mathlib.Core.Bool.{Bool, true, false, cond}
use mathlib.Core.List.{List, [], ◌∷◌, ◌++◌, map, reverse, reverse-cons, zip_with}
use lib.Dec.{T}
use lib.ListN.{length, take, length-map, length-append, length-reverse}
use lib.Seq.{take_all, take-append_seam, get_or-append_seam}
use lib.Ieee.{Float, nan}
use borrow.Author.Tests.{le-ltb}
use Rattle.moving_average.specs.Window.{Point, point, same_time, drop_old, ends_at, store}
use Rattle.moving_average.specs.State.{held, cutoff, mu_now, moving_average_is_full, moving_average_stored, moving_average_update, moving_average_new}
use Rattle.moving_average.specs.Lent.{last_is, slot}
use Rattle.moving_average.specs.Past.{different, window_times, window_is_full, time_accepted, accepted, moving_average_of}
use Rattle.moving_average.proofs.Lists.{map_append, map_take}
use Rattle.moving_average.proofs.Points.{ends_at_is, store_is}
use Rattle.moving_average.proofs.Held.{Sized, held_stored, stored_small, stored_sized}
use Rattle.moving_average.proofs.Accepted.{head_accepted, head_room, tail_accepted, windowed, descending_windowed, from_windowed, newest_is, replaced, newest_reads, replaced_reads}
use Rattle.moving_average.specs.declared.state.MovingAverageState.{MovingAverageState}
use Rattle.moving_average.proofs.Descending.{drop_reads}

-- points whose times, newest first, are w
module _ (t : Float) (ps : List Point) where
  times_length : (w : List Float) → map (λ p. p.time) ps ≡ reverse w → length ps ≡ length w
  times_length w e = sym (length-map ps (λ p. p.time)) ∙ ap length e ∙ length-reverse w

  ends_reads : (w : List Float) → map (λ p. p.time) ps ≡ reverse w → ends_at t ps ≡ newest_is t w
  unfolding newest_is last_is
  ends_reads [] e = ends_at_is t ps ∙ rw (times_length [] e)
  ends_reads (x ∷ w) e =
      ends_at_is t ps ∙ rw (times_length (x ∷ w) e, e, reverse-cons x w, ← length-reverse w)
      (ap (λ (y : Float). same_time y t) (get_or-append_seam (reverse w) x [] nan))

  module _ (mu : Float) where
    store_times : map (λ p. p.time) (store (point t mu) ps) ≡ take (slot (length ps) (ends_at t ps)) (map (λ p. p.time) ps) ++ (t ∷ [])
    store_times =
        ap (map (λ p. p.time)) (store_is (point t mu) ps) ∙ map_append (λ p. p.time) (take (slot (length ps) (ends_at t ps)) ps) (point t mu ∷ [])
        ∙ ap (λ (r : List Float). r ++ (t ∷ [])) (map_take (λ p. p.time) (slot (length ps) (ends_at t ps)) ps)

    store_reads : (w : List Float) → map (λ p. p.time) ps ≡ reverse w → map (λ p. p.time) (store (point t mu) ps) ≡ reverse (t ∷ replaced t w)
    unfolding replaced newest_is slot
    store_reads [] e = store_times ∙ rw (times_length [] e)
    store_reads (x ∷ w) e =
        store_times ∙ rw (times_length (x ∷ w) e, ends_reads (x ∷ w) e, e, reverse-cons x w, ← length-reverse w) (go (same_time x t))
      where
        go : (b : Bool) → take (cond b (length (reverse w)) (suc (length (reverse w)))) (reverse w ++ (x ∷ [])) ++ (t ∷ []) ≡ reverse (t ∷ cond b w (x ∷ w))
        go true = rw (take-append_seam (reverse w) (x ∷ []), reverse-cons t w)
        go false =
            rw (reverse-cons t (x ∷ w), reverse-cons x w)
            (ap (λ (r : List Float). r ++ (t ∷ [])) (take_all (suc (length (reverse w))) (reverse w ++ (x ∷ [])) (omega (arith, length-append (reverse w) (x ∷ [])))))

-- ---- all rows
module _ {R : Type 0} (time input : R → Float) where
  -- what holds of the state that accepted rows lead to
  record Good (h : List R) : Type 0 where
    sized : Sized (moving_average_of time input h)
    small : (moving_average_of time input h).count ≤ 512
    window : map (λ p. p.time) (held (moving_average_of time input h)) ≡ reverse (different (windowed (map time h)))

  module _ (h : List R) (g : Good h) (a : T (accepted (map time h))) (t : Float) (b : T (time_accepted (map time h) t)) where
    good_window : map (λ p. p.time) (drop_old (cutoff t) (held (moving_average_of time input h))) ≡ reverse (window_times (map time h) t)
    good_window =
        drop_reads (cutoff t) (windowed (map time h)) (held (moving_average_of time input h)) (descending_windowed (map time h) a) g.window
        ∙ ap (λ (l : List Float). reverse (different l)) (from_windowed (map time h) t a b)

    good_full : moving_average_is_full (moving_average_of time input h) t ≡ window_is_full (map time h) t
    unfolding moving_average_is_full window_is_full
    good_full =
        let window = drop_old (cutoff t) (held (moving_average_of time input h)) in
        rw (
          le-ltb 512 (moving_average_of time input h).count g.small,
          times_length t window (window_times (map time h) t) good_window,
          ends_reads t window (window_times (map time h) t) good_window,
          newest_reads (map time h) t a b,
        )

  start : Good []
  unfolding moving_average_of moving_average_new held zip_with different windowed
  start = record { sized = record { times = refl; integrals = refl }; small = omega arith; window = refl }

  -- one more row
  module _ (r : R) (h : List R) (a : T (accepted (map time (r ∷ h)))) (g : Good h) where
    abbrev past : List Float
    past = map time h

    abbrev before : MovingAverageState
    before = moving_average_of time input h

    before_accepted : T (accepted past)
    before_accepted = tail_accepted (time r) past a

    accepts : T (time_accepted past (time r))
    accepts = head_accepted (time r) past a

    not_full : moving_average_is_full before (time r) ≡ false
    not_full = good_full h g before_accepted (time r) accepts ∙ head_room (time r) past a

    is_stored : moving_average_of time input (r ∷ h) ≡ moving_average_stored before (time r) (input r)
    unfolding moving_average_of moving_average_update
    is_stored = rw not_full

    stored_window : map (λ p. p.time) (held (moving_average_stored before (time r) (input r))) ≡ reverse (different (windowed (time r ∷ past)))
    unfolding different windowed
    stored_window =
        ap (map (λ p. p.time)) (held_stored before (time r) (input r))
        ∙ store_reads (time r) (drop_old (cutoff (time r)) (held before)) (mu_now before.prev_t before.mu (time r) (input r)) (window_times past (time r)) (good_window h g before_accepted (time r) accepts)
        ∙ ap (λ (w : List Float). reverse (time r ∷ w)) (replaced_reads past (time r) before_accepted accepts)

    step : Good (r ∷ h)
    step =
        record {
          sized = rw is_stored (stored_sized before (time r) (input r) g.sized not_full);
          small = rw is_stored (stored_small before (time r) (input r) g.sized not_full);
          window = rw is_stored stored_window;
        }

  good : (h : List R) → T (accepted (map time h)) → Good h
  good [] a = start
  good (r ∷ h) a = step r h a (good h (tail_accepted (time r) (map time h) a))

  module _ (h : List R) (a : T (accepted (map time h))) (t : Float) (b : T (time_accepted (map time h) t)) where
    -- the window after dropping has one point for each different time of the accepted rows before, from the last one at or before t − 300 on, or all if none is
    pub window_reads : map (λ p. p.time) (drop_old (cutoff t) (held (moving_average_of time input h))) ≡ reverse (window_times (map time h) t)
    window_reads = good_window h (good h a) a t b

    -- and so the list alone tells whether refusal 4 fits
    pub is_full_reads : moving_average_is_full (moving_average_of time input h) t ≡ window_is_full (map time h) t
    is_full_reads = good_full h (good h a) a t b
