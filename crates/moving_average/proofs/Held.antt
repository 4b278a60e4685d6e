-- What dropping, the test for room and storing give of a state, by index into its arrays. Assumes nothing.
use Prim.Native.Nat.{ℕ, zero, suc, ◌+◌, ◌-◌, ◌<◌, ◌≤◌, min}
use native.Mathlib.Omega.{arith}
use mathlib.Core.Path.{◌≡◌, refl, sym, ap, ap₂, ◌∙◌}
use mathlib.Core.Bool.{Bool, true, false, not, ◌&&◌, ◌||◌, cond}
use mathlib.Core.List.{List, [], ◌∷◌, ◌++◌, map, zip_with}
use lib.Dec.{eqb, ltb, ltb→lt}
use Rattle.std.specs.Prelude.{Option, None, Some, is_none}
use lib.ListN.{length, take, drop, get_or, length-drop, length-take, length-map, length-append}
use lib.Seq.{length-take-le, get_or-take, take_at, slice}
use lib.Ieee.{Float, nan}
use borrow.Author.Tests.{lt-ltb, le-ltb, ltb-false, eqb-false}
use Rattle.std.proofs.lemmas.Option.{none-some, some_pair_parts}
use Rattle.reals.proofs.Truth.{table1, holds}
use Rattle.moving_average.specs.declared.state.MovingAverageState.{MovingAverageState}
use Rattle.moving_average.specs.Window.{Point, point, same_time, drop_old, ends_at, store}
use Rattle.moving_average.specs.State.{held, written, cutoff, mu_now, first_time, moving_average_is_full, moving_average_stored, moving_average_update}
use Rattle.moving_average.specs.declared.lent.Integrator.{Integrator}
use Rattle.moving_average.specs.Lent.{leading, last_is, slot, place, joined}
use Rattle.moving_average.proofs.Lists.{take_min, map_append, map_take, map_drop, part_of_front}
use Rattle.moving_average.proofs.Loops.{gone_le}
use Rattle.moving_average.proofs.Points.{times_of, integrals_of, points_of, first_is, drop_old_is, ends_kept, ends_at_is, store_is}

-- both arrays have 512 entries, as in every value of the type
pub record Sized (s : MovingAverageState) : Type 0 where
  pub times : length s.times ≡ 512
  pub integrals : length s.integrals ≡ 512

-- for a row at t: how many points go and how many stay, whether the last one is at t, and the index of the new one
abbrev pub gone : MovingAverageState → Float → ℕ
gone s t = leading (cutoff t) (slice 1 s.count s.times)

abbrev pub kept : MovingAverageState → Float → ℕ
kept s t = s.count - gone s t

abbrev pub again : MovingAverageState → Float → Bool
again s t = last_is t s.count s.times

abbrev pub index : MovingAverageState → Float → ℕ
index s t = slot (kept s t) (again s t)

-- ---- the test for room

-- a state that counts more than 512 points is full, and one that is not full counts no more
pub full_over : (s : MovingAverageState) (t : Float) → 512 < s.count → moving_average_is_full s t ≡ true
unfolding moving_average_is_full
full_over s t h = rw (lt-ltb 512 s.count h)

pub counts : (s : MovingAverageState) (t : Float) → moving_average_is_full s t ≡ false → s.count ≤ 512
unfolding moving_average_is_full
counts s t e = ltb-false 512 s.count (first (ltb 512 s.count) (eqb (length (drop_old (cutoff t) (held s))) 512 && not (ends_at t (drop_old (cutoff t) (held s)))) e)
  where
    first : (a b : Bool) → a || b ≡ false → a ≡ false
    first true b e = e
    first false b e = refl

last_is_taken : (t : Float) (n : ℕ) (ts : List Float) → last_is t n (take n ts) ≡ last_is t n ts
unfolding last_is
last_is_taken t zero ts = refl
last_is_taken t (suc n) ts = ap (λ (x : Float). same_time x t) (get_or-take (suc n) ts n nan (omega arith))

pub last_is_front : (t : Float) (n : ℕ) (ts : List Float) → n ≤ length ts → last_is t (length (take n ts)) (take n ts) ≡ last_is t n ts
last_is_front t n ts h = rw (length-take-le n ts h) (last_is_taken t n ts)

pub slot_le : (n : ℕ) (b : Bool) → slot n b ≤ n
unfolding slot
slot_le zero b = omega arith
slot_le (suc n) true = omega arith
slot_le (suc n) false = omega arith

-- a window of at most 512 points that is not full has an index for a new one
pub slot_room : (n : ℕ) (b : Bool) → n ≤ 512 → eqb n 512 && not b ≡ false → slot n b < 512
unfolding slot
slot_room zero b h e = omega arith
slot_room (suc n) true h e = omega arith
slot_room (suc n) false h e = omega (arith, eqb-false (suc n) 512 (sym (table1 (λ a. a && true) (λ a. a) tt (eqb (suc n) 512)) ∙ e))

-- ---- a state with a count of its own, or 512 where that is more
module _ (s : MovingAverageState) (sized : Sized s) (n : ℕ) (e : n ≡ min s.count 512) where
  front_min : (l : List Float) → length l ≡ 512 → take s.count l ≡ take n l
  front_min l h = rw (e, ← h) (sym (take_min s.count l))

  pub held_front : held s ≡ zip_with point (take n s.times) (take n s.integrals)
  unfolding held
  held_front = rw (front_min s.times sized.times, front_min s.integrals sized.integrals)

  pub held_first : (start : Float) → first_time start (held s) ≡ get_or (take n s.times) 0 start
  held_first start =
      let t = sized.times in
      let m = sized.integrals in
      rw held_front (first_is start (take n s.times) (take n s.integrals) (omega (arith, length-take n s.times, length-take n s.integrals)))

-- ---- a state that counts at most 512 points, at a row at t
module _ (s : MovingAverageState) (sized : Sized s) (small : s.count ≤ 512) where
  front_length : (l : List Float) → length l ≡ 512 → length (take s.count l) ≡ s.count
  front_length l e = length-take-le s.count l (omega arith)

  fronts : length (take s.count s.times) ≡ length (take s.count s.integrals)
  fronts = front_length s.times sized.times ∙ sym (front_length s.integrals sized.integrals)

  held_times : map (λ p. p.time) (held s) ≡ take s.count s.times
  unfolding held
  held_times = times_of (take s.count s.times) (take s.count s.integrals) fronts

  held_integrals : map (λ p. p.integral) (held s) ≡ take s.count s.integrals
  unfolding held
  held_integrals = integrals_of (take s.count s.times) (take s.count s.integrals) fronts

  held_length : length (held s) ≡ s.count
  held_length = sym (length-map (held s) (λ p. p.time)) ∙ ap length held_times ∙ front_length s.times sized.times

  module _ (t : Float) where
    window_is : drop_old (cutoff t) (held s) ≡ drop (gone s t) (held s)
    window_is = drop_old_is (cutoff t) (held s) ∙ ap (λ (l : List Float). drop (leading (cutoff t) (drop 1 l)) (held s)) held_times

    kept_is : length (drop_old (cutoff t) (held s)) ≡ kept s t
    kept_is = ap length window_is ∙ length-drop (gone s t) (held s) ∙ ap (λ (n : ℕ). n - gone s t) held_length

    again_is : ends_at t (drop_old (cutoff t) (held s)) ≡ again s t
    again_is =
        ends_kept (cutoff t) t (held s) ∙ ends_at_is t (held s)
        ∙ ap₂ (last_is t) held_length held_times ∙ last_is_taken t s.count s.times

    pub full_is : moving_average_is_full s t ≡ eqb (kept s t) 512 && not (again s t)
    unfolding moving_average_is_full
    full_is = rw (le-ltb 512 s.count small, kept_is, again_is)

    -- where there is room, the new point has an index
    pub room : moving_average_is_full s t ≡ false → index s t < 512
    room e = slot_room (kept s t) (again s t) (omega arith) (sym full_is ∙ e)

    pub fit : gone s t + index s t ≤ s.count
    fit = let l = sized.times in omega (arith, gone_le (cutoff t) s.times s.count (omega arith), slot_le (kept s t) (again s t))

    module _ (mu : Float) where
      -- the window after storing
      abbrev next : List Point
      next = store (point t mu) (drop_old (cutoff t) (held s))

      next_is : next ≡ take (index s t) (drop (gone s t) (held s)) ++ (point t mu ∷ [])
      next_is = store_is (point t mu) (drop_old (cutoff t) (held s)) ∙ rw (kept_is, again_is, window_is)

      -- a field of its points
      next_field : (f : Point → Float) (xs : List Float) → length xs ≡ 512 → map f (held s) ≡ take s.count xs → map f next ≡ take (index s t) (drop (gone s t) xs) ++ (f (point t mu) ∷ [])
      next_field f xs l e =
          ap (map f) next_is ∙ map_append f (take (index s t) (drop (gone s t) (held s))) (point t mu ∷ [])
          ∙ ap (λ (r : List Float). r ++ (f (point t mu) ∷ []))
          (map_take f (index s t) (drop (gone s t) (held s)) ∙ ap (take (index s t)) (map_drop f (gone s t) (held s) ∙ ap (drop (gone s t)) e) ∙ part_of_front (index s t) (gone s t) s.count xs fit (omega arith))

      pub next_times : map (λ p. p.time) next ≡ take (index s t) (drop (gone s t) s.times) ++ (t ∷ [])
      next_times = next_field (λ p. p.time) s.times sized.times held_times

      pub next_integrals : map (λ p. p.integral) next ≡ take (index s t) (drop (gone s t) s.integrals) ++ (mu ∷ [])
      next_integrals = next_field (λ p. p.integral) s.integrals sized.integrals held_integrals

      pub next_count : length next ≡ index s t + 1
      next_count =
          ap length next_is ∙ length-append (take (index s t) (drop (gone s t) (held s))) (point t mu ∷ [])
          ∙ ap (λ (n : ℕ). n + 1) (length-take-le (index s t) (drop (gone s t) (held s)) (omega (arith, length-drop (gone s t) (held s), held_length, fit)))

-- ---- where a row at t is put
abbrev pub position : MovingAverageState → Float → Option (ℕ × ℕ)
position s t = Some (gone s t, index s t)

module _ (s : MovingAverageState) (sized : Sized s) (t : Float) where
  place_is : place t s.count s.times ≡ cond (moving_average_is_full s t) None (position s t)
  unfolding place
  place_is = ap (λ (b : Bool). cond b None (position s t)) (go (ltb 512 s.count) refl)
    where
      go : (b : Bool) → ltb 512 s.count ≡ b → b || (eqb (kept s t) 512 && not (again s t)) ≡ moving_average_is_full s t
      go true e = sym (full_over s t (ltb→lt 512 s.count (holds (ltb 512 s.count) e)))
      go false e = sym (full_is s sized (ltb-false 512 s.count e) t)

  pub full_reads : is_none (place t s.count s.times) ≡ moving_average_is_full s t
  full_reads = ap (λ (r : Option (ℕ × ℕ)). is_none r) place_is ∙ go (moving_average_is_full s t)
    where
      go : (b : Bool) → is_none (cond b None (position s t)) ≡ b
      go true = refl
      go false = refl

  pub record Placed (k j : ℕ) : Type 0 where
    pub room : moving_average_is_full s t ≡ false
    pub dropped : k ≡ gone s t
    pub at : j ≡ index s t

  pub placed : (k j : ℕ) → place t s.count s.times ≡ Some (k, j) → Placed k j
  placed k j e = go (moving_average_is_full s t) refl (sym place_is ∙ e)
    where
      go : (b : Bool) → moving_average_is_full s t ≡ b → cond b None (position s t) ≡ Some (k, j) → Placed k j
      go true f p = absurd (none-some _ p)
      go false f p = let q = some_pair_parts _ _ _ _ p in record { room = f; dropped = sym q.0; at = sym q.1 }

pub full_asked : (i : Integrator) (ts ms : List Float) (t : Float) → length ts ≡ 512 → length ms ≡ 512 → is_none (place t i.count ts) ≡ moving_average_is_full (joined i ts ms) t
full_asked i ts ms t l m = full_reads (joined i ts ms) (record { times = l; integrals = m }) t

-- ---- the state after storing

-- it holds the window after storing
written_front : (f : Point → Float) (ps : List Point) (old : List Float) → take (length ps) (written (map f ps) old) ≡ map f ps
unfolding written
written_front f ps old = take_at (map f ps) (drop (length (map f ps)) old) (length ps) (length-map ps f)

pub held_stored : (s : MovingAverageState) (t input : Float) → held (moving_average_stored s t input) ≡ store (point t (mu_now s.prev_t s.mu t input)) (drop_old (cutoff t) (held s))
unfolding held moving_average_stored
held_stored s t input =
    let window = store (point t (mu_now s.prev_t s.mu t input)) (drop_old (cutoff t) (held s)) in
    ap₂ (zip_with point) (written_front (λ p. p.time) window s.times) (written_front (λ p. p.integral) window s.integrals) ∙ points_of window

-- and its arrays are as long as before
written_length : (new old : List Float) → length new ≤ length old → length (written new old) ≡ length old
unfolding written
written_length new old h = omega (arith, length-append new (drop (length new) old), length-drop (length new) old)

module _ (s : MovingAverageState) (t input : Float) (sized : Sized s) (e : moving_average_is_full s t ≡ false) where
  pub stored_small : (moving_average_stored s t input).count ≤ 512
  unfolding moving_average_stored
  stored_small = let n = counts s t e in omega (arith, next_count s sized n t (mu_now s.prev_t s.mu t input), room s sized n t e)

  field_length : (f : Point → Float) (old : List Float) → length old ≡ 512 → length (written (map f (store (point t (mu_now s.prev_t s.mu t input)) (drop_old (cutoff t) (held s)))) old) ≡ 512
  unfolding moving_average_stored
  field_length f old l =
      let window = store (point t (mu_now s.prev_t s.mu t input)) (drop_old (cutoff t) (held s)) in
      written_length (map f window) old (omega (arith, length-map window f, stored_small)) ∙ l

  pub stored_sized : Sized (moving_average_stored s t input)
  unfolding moving_average_stored
  stored_sized = record { times = field_length (λ p. p.time) s.times sized.times; integrals = field_length (λ p. p.integral) s.integrals sized.integrals }

-- so a row leaves the arrays their length, refused or not
pub update_sized : (s : MovingAverageState) (t input : Float) → Sized s → Sized (moving_average_update s t input)
unfolding moving_average_update
update_sized s t input sized = go (moving_average_is_full s t) (stored_sized s t input sized)
  where
    go : (b : Bool) → (b ≡ false → Sized (moving_average_stored s t input)) → Sized (cond b s (moving_average_stored s t input))
    go true f = sized
    go false f = f refl
