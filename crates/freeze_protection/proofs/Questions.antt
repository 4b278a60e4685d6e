-- The insurer's questions about freeze protection, answered over all lists of rows from the reading. Assumes nothing.
use Rattle.std.specs.Prelude.{Ok, Err}
use Prim.Native.Nat.{ℕ}
use mathlib.Core.Path.{◌≡◌, refl}
use mathlib.Core.Bool.{Bool, true, false, not, ◌&&◌, ◌||◌, cond}
use mathlib.Core.List.{List, [], ◌∷◌, ◌++◌}
use lib.Dec.{T, eqb}
use lib.Ieee.{Float, binary64, add, sub, lt, le, round, of_bits}
use lib.Ieee.Fits.{and_l, and_r}
use lib.Ieee.Scale.{finite}
use Rattle.refusals.specs.Refusals.{Verdict}
use Rattle.refusals.specs.Refusals.{judge}
use Rattle.past.specs.Past.{some, every, since_with, since, row0, rises, latched}
use Rattle.past.specs.Runs.{passed, gaps}
use Rattle.past.specs.Turns.{values, turns, changes, hold_here, hold}
use Rattle.past.specs.Acceptance.{last_time, verdict_after}
use Rattle.past.specs.Whole.{next_by, accepted}
use Rattle.past.proofs.Laws.{since_step, latched_step, rises_step}
use Rattle.past.proofs.RunLaws.{passed_step}
use Rattle.past.proofs.TurnLaws.{hold_law}
use Rattle.reals.specs.Constants.{plus_zero, whole}
use Rattle.reals.specs.Seen.{seen_above}
use Rattle.reals.specs.Sign.{is_sign_negative, is_time}
use Rattle.reals.proofs.FloatOrder.{le_trans, le→not-lt}
use Rattle.reals.proofs.Truth.{table1, is_true}
use Rattle.freeze_protection.specs.declared.types.FreezeRow.{FreezeRow}
use Rattle.freeze_protection.specs.Constants.{cold_stage2, cold_stage3, band, five_minutes, fifteen_minutes, hour}
use Rattle.freeze_protection.specs.Verdict.{numbers_finite}
use Rattle.freeze_protection.specs.Signals.{stage_number}
use Rattle.freeze_protection.specs.Reading.{Past, time_of_row, supply_of, cold, passed_for, reset_row, holding, end_of_hour, recovery, stage, stage1_call, stage1_call_by, stage3_call, stage_by, verdict_of}
use Rattle.freeze_protection.specs.Questions.{is_accepted, taken, tripped, stage_after, hold_after, mild, mild_after, row_at, hour_dropped, rows_of278, newest_time, not_falling, calling}
use Rattle.freeze_protection.proofs.Stages.{two_is, three_exactly}
use Rattle.freeze_protection.proofs.Blocks.{cold_none, holding_none, hour_none, call3_none}

-- ---- question 1, which rows can end a stage 3 trip. A trip stands exactly where the stage is 3
pub trip_is_stage_3 : (l : List FreezeRow) → tripped l ≡ eqb (stage_after l) 3
unfolding tripped stage_after stage_by
trip_is_stage_3 l =
    three_exactly (latched stage3_call reset_row (accepted verdict_of l)) (latched holding end_of_hour (accepted verdict_of l)) (latched stage1_call recovery (accepted verdict_of l))

-- a trip that stands after the rows l stands after one row more unless that row is accepted and says reset
trip_step : (x : FreezeRow) (h : Past) → latched stage3_call reset_row h ≡ true → latched stage3_call reset_row (x ∷ h) ≡ not x.software_reset
trip_step x h e = rw (latched_step stage3_call reset_row call3_none x h, e) (go x.software_reset (stage3_call (x ∷ h) && not (stage3_call h)))
  where
    go : (r c : Bool) → (not r && (c || true)) ≡ not r
    go true c = refl
    go false true = refl
    go false false = refl

pub trip_ends : (x : FreezeRow) (l : List FreezeRow) → tripped l ≡ true → tripped (x ∷ l) ≡ not (taken x l && x.software_reset)
unfolding tripped accepted
trip_ends x l e = go (verdict_of (accepted verdict_of l) x)
  where
    go : (v : Verdict) → latched stage3_call reset_row (next_by v (x ∷ accepted verdict_of l) (accepted verdict_of l)) ≡ not (is_accepted v && x.software_reset)
    go (Ok tt) = trip_step x (accepted verdict_of l) e
    go (Err r) = e

-- a reset on the row of the rise loses that rise for as long as the call stays true
pub rise_lost : (x : FreezeRow) (h : Past) → x.software_reset ≡ true → stage3_call (x ∷ h) ≡ true → (m : Past) → T (calling m (x ∷ h)) → latched stage3_call reset_row (m ++ (x ∷ h)) ≡ false
rise_lost x h r c [] t = rw (latched_step stage3_call reset_row call3_none x h, r) refl
rise_lost x h r c (y ∷ m) t =
    rw (latched_step stage3_call reset_row call3_none y (m ++ (x ∷ h)), rise_lost x h r c m later, before m later) (go y.software_reset (stage3_call (y ∷ (m ++ (x ∷ h)))))
  where
    later : T (calling m (x ∷ h))
    later = and_r (stage3_call (y ∷ (m ++ (x ∷ h)))) (calling m (x ∷ h)) t

    -- the call is true at the row before
    before : (m : Past) → T (calling m (x ∷ h)) → stage3_call (m ++ (x ∷ h)) ≡ true
    before [] t = c
    before (z ∷ m) t = is_true (stage3_call (z ∷ (m ++ (x ∷ h)))) (and_l (stage3_call (z ∷ (m ++ (x ∷ h)))) (calling m (x ∷ h)) t)

    go : (r c : Bool) → (not r && (c && false || false)) ≡ false
    go true c = refl
    go false true = refl
    go false false = refl

-- and a new rise trips, on a row that does not say reset
pub new_rise_trips : (x : FreezeRow) (h : Past) → rises stage3_call (x ∷ h) ≡ true → x.software_reset ≡ false → latched stage3_call reset_row (x ∷ h) ≡ true
new_rise_trips x h c r = rw (latched_step stage3_call reset_row call3_none x h, ← rises_step stage3_call call3_none x h, c, r) refl

-- ---- question 2, how long stage 2 can stand: the row after one of stage 2 has stage 3 where a stage 3 call rises and the row does not say reset; else stage 2 again,
-- unless it is an end-of-hour row
pub stage_2_ends : (x : FreezeRow) (h : Past) → stage h ≡ 2
    → stage (x ∷ h) ≡ cond (rises stage3_call (x ∷ h) && not x.software_reset) 3 (cond (end_of_hour (x ∷ h)) (cond (latched stage1_call recovery (x ∷ h)) 1 0) 2)
unfolding stage_by stage_number
stage_2_ends x h e =
    let l = two_is (latched stage3_call reset_row h) (latched holding end_of_hour h) (latched stage1_call recovery h) e in
    rw (latched_step stage3_call reset_row call3_none x h, ← rises_step stage3_call call3_none x h, latched_step holding end_of_hour holding_none x h, l.0, l.1)
    (go x.software_reset (rises stage3_call (x ∷ h)) (end_of_hour (x ∷ h)) (holding (x ∷ h) && not (holding h)) (latched stage1_call recovery (x ∷ h)))
  where
    go : (r s e c o : Bool) → ◌≡◌ {A = ℕ} (stage_number (not r && (s || false)) (not e && (c || true)) o) (cond (s && not r) 3 (cond e (cond o 1 0) 2))
    go true true true c o = refl
    go true true false true o = refl
    go true true false false o = refl
    go true false true c o = refl
    go true false false true o = refl
    go true false false false o = refl
    go false true e c o = refl
    go false false true c o = refl
    go false false false true o = refl
    go false false false false o = refl

-- there is no bound: once its hold is off, stage 2 stands for as long as the accepted rows are mild
-- a mild row is not below a level that is 276.45 K at the most, nor below that level and its band
not_below : (x : FreezeRow) (l : Float) → T (le l (add binary64 cold_stage2 band)) → T (mild x) → lt x.supply_air_temperature l ≡ false
not_below x l b m = le→not-lt x.supply_air_temperature l (le_trans l (add binary64 cold_stage2 band) x.supply_air_temperature b m)

mild_cold : (l : Float) (x : FreezeRow) (h : Past) → T (le (add binary64 l band) (add binary64 cold_stage2 band)) → T (le l (add binary64 cold_stage2 band)) → T (mild x) → cold l (x ∷ h) ≡ false
unfolding cold
mild_cold l x h b c m = rw (since_step (λ s. lt (supply_of s) (add binary64 l band)) (λ s. lt (supply_of s) l) x h, not_below x (add binary64 l band) b m, not_below x l c m) refl

-- stage 2 stands and its hold is off; this goes on holding on mild rows
record Released (h : Past) : Type 0 where
  off : holding h ≡ false
  standing : latched holding end_of_hour h ≡ true
  untripped : latched stage3_call reset_row h ≡ false

either_false : (b : Bool) → cond b false false ≡ false
either_false true = refl
either_false false = refl

module _ (x : FreezeRow) (h : Past) (m : T (mild x)) (r : Released h) where
  not_cold_2 : cold cold_stage2 (x ∷ h) ≡ false
  not_cold_2 = mild_cold cold_stage2 x h (unfold le add of_bits in tt) (unfold le add of_bits in tt) m

  not_cold_3 : cold cold_stage3 (x ∷ h) ≡ false
  not_cold_3 = mild_cold cold_stage3 x h (unfold le add of_bits in tt) (unfold le add of_bits in tt) m

  not_passed : (n : Float) (u : Past → Bool) → u [] ≡ false → u (x ∷ h) ≡ false → passed_for n u (x ∷ h) ≡ false
  not_passed n u e f = rw (passed_step time_of_row u e n x h, f) refl

  still_off : holding (x ∷ h) ≡ false
  unfolding holding
  still_off =
      rw (hold_law time_of_row hour plus_zero (passed_for five_minutes (cold cold_stage2)) x h, not_passed five_minutes (cold cold_stage2) (cold_none cold_stage2) not_cold_2, r.off)
      (either_false (row0 (x ∷ h) || false))

  no_end : end_of_hour (x ∷ h) ≡ false
  unfolding end_of_hour
  no_end = rw (rises_step (passed_for hour holding) hour_none x h, not_passed hour holding holding_none still_off) refl

  no_call : stage3_call (x ∷ h) ≡ false
  unfolding stage3_call
  no_call = rw (not_passed fifteen_minutes (cold cold_stage2) (cold_none cold_stage2) not_cold_2, not_passed five_minutes (cold cold_stage3) (cold_none cold_stage3) not_cold_3) refl

  released_on : Released (x ∷ h)
  released_on = record {
    off = still_off;
    standing = rw (latched_step holding end_of_hour holding_none x h, no_end, r.standing) (or_true (holding (x ∷ h) && not (holding h)));
    untripped = rw (latched_step stage3_call reset_row call3_none x h, no_call, r.untripped) (and_false (not x.software_reset));
  }
    where
      or_true : (c : Bool) → (c || true) ≡ true
      or_true true = refl
      or_true false = refl

      and_false : (b : Bool) → (b && false) ≡ false
      and_false true = refl
      and_false false = refl

module _ (l : List FreezeRow) (two : stage_after l ≡ 2) (off : hold_after l ≡ false) where
  released_here : Released (accepted verdict_of l)
  unfolding stage_after hold_after stage_by stage_number
  released_here =
      let h = accepted verdict_of l in
      let b = two_is (latched stage3_call reset_row h) (latched holding end_of_hour h) (latched stage1_call recovery h) two in
      record { off = off; standing = b.1; untripped = b.0 }

  released_after : (m : List FreezeRow) → T (mild_after m l) → Released (accepted verdict_of (m ++ l))
  unfolding accepted
  released_after [] t = released_here
  released_after (x ∷ m) t =
      by (verdict_of (accepted verdict_of (m ++ l)) x) (and_l (not (taken x (m ++ l)) || mild x) (mild_after m l) t)
      (released_after m (and_r (not (taken x (m ++ l)) || mild x) (mild_after m l) t))
    where
      by : (v : Verdict) → T (not (is_accepted v) || mild x) → Released (accepted verdict_of (m ++ l)) → Released (next_by v (x ∷ accepted verdict_of (m ++ l)) (accepted verdict_of (m ++ l)))
      by (Ok tt) t r = released_on x (accepted verdict_of (m ++ l)) t r
      by (Err c) t r = r

  -- after any rows l that leave stage 2 with its hold off, and any rows m of which the accepted ones are mild, it is stage 2
  pub stage_2_stands : (m : List FreezeRow) → T (mild_after m l) → stage_after (m ++ l) ≡ 2
  unfolding stage_after stage_by stage_number
  stage_2_stands m t = rw ((released_after m t).untripped, (released_after m t).standing) refl

-- ---- F5 leaves it so
-- its four rows are accepted
dropped_taken : accepted verdict_of hour_dropped ≡ hour_dropped
unfolding accepted verdict_after judge numbers_finite seen_above is_sign_negative lt round of_bits
dropped_taken = refl

dropped_released : (stage hour_dropped ≡ 2) × (holding hour_dropped ≡ false)
unfolding stage_by stage_number stage1_call_by recovery holding end_of_hour stage3_call cold hold values hold_here changes gaps turns passed latched rises since since_with some every lt le add sub round of_bits
dropped_released = (refl, refl)

pub hour_dropped_lem : (stage_after hour_dropped ≡ 2) × (hold_after hour_dropped ≡ false)
unfolding stage_after hold_after
hour_dropped_lem = rw dropped_taken dropped_released

-- rows of 278 K from 3900 s on are mild, and are all accepted where their times do not fall
pub mild_278 : (ts : List Float) → T (mild_after (rows_of278 ts) hour_dropped)
mild_278 [] = tt
mild_278 (t ∷ ts) = both (not (taken (row_at t 27800) (rows_of278 ts ++ hour_dropped))) (mild (row_at t 27800)) (mild_after (rows_of278 ts) hour_dropped) (unfold le add round of_bits in tt) (mild_278 ts)
  where
    both : (a b c : Bool) → T b → T c → T ((a || b) && c)
    both true b c h k = k
    both false true c h k = k
    both false false c h k = absurd h

finite_278 : (t : Float) → numbers_finite (row_at t 27800) ≡ finite t
unfolding numbers_finite round of_bits
finite_278 t = table1 (λ b. b && true && true && true && true && true && true && true && true && true) (λ b. b) tt (finite t)

not_earlier : (t : Float) (ts : List Float) → T (le (newest_time ts) t) → seen_above (last_time time_of_row (rows_of278 ts ++ hour_dropped)) t ≡ false
unfolding seen_above
not_earlier t [] l = le→not-lt t (whole 3900) l
not_earlier t (u ∷ ts) l = le→not-lt t u l

taken_278 : (t : Float) (ts : List Float) → T (is_time t) → T (le (newest_time ts) t) → verdict_of (rows_of278 ts ++ hour_dropped) (row_at t 27800) ≡ Ok tt
unfolding verdict_after judge
taken_278 t ts i l = rw (finite_278 t, is_true (finite t) (and_l (finite t) (not (is_sign_negative t)) i), sign_off (is_sign_negative t) (and_r (finite t) (not (is_sign_negative t)) i), not_earlier t ts l) refl
  where
    sign_off : (b : Bool) → T (not b) → b ≡ false
    sign_off true h = absurd h
    sign_off false h = refl

pub all_taken : (ts : List Float) → T (not_falling ts) → accepted verdict_of (rows_of278 ts ++ hour_dropped) ≡ rows_of278 ts ++ hour_dropped
unfolding accepted
all_taken [] r = dropped_taken
all_taken (t ∷ ts) r =
    let i : T (is_time t) = and_l (is_time t) (le (newest_time ts) t && not_falling ts) r in
    let q : T (le (newest_time ts) t && not_falling ts) = and_r (is_time t) (le (newest_time ts) t && not_falling ts) r in
    rw (
      all_taken ts (and_r (le (newest_time ts) t) (not_falling ts) q),
      taken_278 t ts i (and_l (le (newest_time ts) t) (not_falling ts) q),
    ) refl
