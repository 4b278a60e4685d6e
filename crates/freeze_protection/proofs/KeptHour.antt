-- The insurer's second question where stage 2 keeps to its hour, over all lists of rows: it stands exactly while the hour since the hold last came on runs, and the row
-- that ends the hour hands over to stage 1, unless a recovery falls on it. Assumes nothing.
use Rattle.std.specs.Prelude.{Ok, Err}
use Prim.Native.Nat.{ℕ, suc, ◌<◌}
use native.Mathlib.Omega.{arith}
use mathlib.Core.Path.{◌≡◌, refl, sym, ap, ◌∙◌}
use mathlib.Core.Bool.{Bool, true, false, not, ◌&&◌, ◌||◌, cond}
use mathlib.Core.List.{List, [], ◌∷◌, reverse}
use lib.Dec.{T, eqb}
use lib.ListN.{length, get_or, take}
use lib.Ieee.{Float, binary64, add, sub, lt, le, of_bits}
use lib.Ieee.Fits.{and_l, and_r}
use Rattle.reals.proofs.FloatOrder.{lt_excludes, lt→le, lt_le, le_lt}
use Rattle.reals.proofs.Truth.{or_r, either, opposite, holds, fails}
use Rattle.refusals.specs.Refusals.{Verdict}
use Rattle.logical.specs.Run.{run}
use Rattle.past.specs.Past.{risen, rises, latched}
use Rattle.past.specs.Runs.{lapses, lapsed}
use Rattle.past.specs.Whole.{Told, NotTaken, Taken, told_by, next_by, accepted}
use Rattle.past.proofs.Laws.{since_step, rises_step, latched_step, latched_none}
use Rattle.past.proofs.RunLaws.{passed_step, passed_none}
use Rattle.past.proofs.LapseLaws.{lapsed_none, lapses_none, lapses_is_rise, latched_until, within_elapsed}
use Rattle.past.proofs.Sequence.{accepted_in_order}
use Rattle.past.proofs.Whole.{read_newest}
use Rattle.freeze_protection.specs.declared.types.FreezeRow.{FreezeRow}
use Rattle.freeze_protection.specs.Constants.{cold_stage1, warm_level, band, five_minutes, hour}
use Rattle.freeze_protection.specs.Verdict.{numbers_finite}
use Rattle.freeze_protection.specs.Signals.{stage_number}
use Rattle.freeze_protection.specs.Reading.{Past, time_of_row, supply_of, cold, warm, passed_for, reset_row, holding, end_of_hour_kept, recovery, stage1_call_by, stage1_call_kept, stage3_call, stage_by, stage_kept, verdict_of}
use Rattle.freeze_protection.specs.Step.{freeze_start}
use Rattle.freeze_protection.specs.Told.{freeze_told, freeze_returned}
use Rattle.freeze_protection.specs.Questions.{tripped}
use Rattle.freeze_protection.specs.KeptHour.{hour_runs, since_hold, stage_after_kept}
use Rattle.freeze_protection.proofs.Stages.{two_is, three_exactly}
use Rattle.freeze_protection.proofs.Blocks.{cold_none, warm_none, warm_passed_none, holding_none, hour_positive, call1_none}
use Rattle.freeze_protection.proofs.Demand3.{time_finite, freeze_demand_3_from_at}

-- ---- what an answer tells
abbrev is_taken : Told ℕ → Bool
is_taken (NotTaken r) = false
is_taken (Taken v) = true

abbrev value_of : Told ℕ → ℕ
value_of (NotTaken r) = 0
value_of (Taken v) = v

value : {a b : ℕ} → ◌≡◌ {A = Told ℕ} (Taken a) (Taken b) → a ≡ b
value e = ap value_of e

-- ---- stage 2 and its hour
-- stage 2's latch is on exactly while its hour runs
latch_is_hour : (h : Past) → latched holding end_of_hour_kept h ≡ hour_runs h
unfolding end_of_hour_kept hour_runs
latch_is_hour h = latched_until time_of_row holding holding_none hour h

-- for every list: stage 3 where a trip stands; else stage 2 exactly while the hour runs; else 1 or 0
pub stage_2_is_hour : (l : List FreezeRow)
    → stage_after_kept l ≡ cond (tripped l) 3 (cond (hour_runs (accepted verdict_of l)) 2 (cond (latched stage1_call_kept recovery (accepted verdict_of l)) 1 0))
unfolding stage_after_kept stage_by tripped
stage_2_is_hour l = rw (latch_is_hour (accepted verdict_of l)) refl

-- so a trip stands exactly where the stage is 3
pub kept_trip_is_stage_3 : (l : List FreezeRow) → tripped l ≡ eqb (stage_after_kept l) 3
kept_trip_is_stage_3 l =
    rw (stage_2_is_hour l) (three_exactly (tripped l) (hour_runs (accepted verdict_of l)) (latched stage1_call_kept recovery (accepted verdict_of l)))

-- accepted times do not fall, so the clock at the newest accepted row tells whether the hour runs
pub hour_by_the_clock : (l : List FreezeRow) → hour_runs (accepted verdict_of l) ≡ (risen holding (accepted verdict_of l) && not (le hour (since_hold (accepted verdict_of l))))
unfolding hour_runs since_hold
hour_by_the_clock l = within_elapsed time_of_row holding holding_none hour hour_positive (accepted verdict_of l) (accepted_in_order time_of_row numbers_finite time_finite l)

-- so stage 2 stands at no row whose time is 3600 s or more above that of the row at which the hold last came on
pub stage_2_keeps_hour : (l : List FreezeRow) → stage_after_kept l ≡ 2 → le hour (since_hold (accepted verdict_of l)) ≡ false
unfolding stage_after_kept stage_by stage_number
stage_2_keeps_hour l e =
    let h = accepted verdict_of l in
    let runs : hour_runs h ≡ true = sym (latch_is_hour h) ∙ (two_is (latched stage3_call reset_row h) (latched holding end_of_hour_kept h) (latched stage1_call_kept recovery h) e).1 in
    go (risen holding h) (le hour (since_hold h)) (sym (hour_by_the_clock l) ∙ runs)
  where
    go : (a b : Bool) → (a && not b) ≡ true → b ≡ false
    go a false e = refl
    go true true e = absurd (holds false e)
    go false true e = absurd (holds false e)

-- the same of the answers: for every list of rows from that start, refused ones included, and every place at which stage 2 is told
pub told_2_keeps_hour : (rows : List FreezeRow) (i : ℕ) → i < length rows
    → get_or (run freeze_told freeze_returned (freeze_start true) rows) i (Taken 0) ≡ Taken 2
    → le hour (since_hold (accepted verdict_of (reverse (take (suc i) rows)))) ≡ false
told_2_keeps_hour rows i m e = at (reverse (take (suc i) rows)) (sym (freeze_demand_3_from_at true (Taken 0) rows i m) ∙ e)
  where
    at : (l : List FreezeRow) → read_newest verdict_of stage_kept (Taken 0) l ≡ Taken 2 → le hour (since_hold (accepted verdict_of l)) ≡ false
    at [] e = absurd (omega (arith, value e))
    at (x ∷ l) e = stage_2_keeps_hour (x ∷ l) (unfold stage_after_kept accepted in here (verdict_of (accepted verdict_of l) x) e)
      where
        here : (v : Verdict) → told_by v (stage_kept (x ∷ accepted verdict_of l)) ≡ Taken 2 → stage_kept (next_by v (x ∷ accepted verdict_of l) (accepted verdict_of l)) ≡ 2
        here (Ok tt) e = value e
        here (Err r) e = absurd (fails (is_taken (NotTaken r)) refl (holds (is_taken (NotTaken r)) (ap is_taken e)))

-- ---- the row that ends the hour hands over to stage 1, unless a recovery falls on it
-- cold for stage 1 is below 277.80 K, warm is above 279.90 K
cold_below : (x : FreezeRow) (h : Past) → T (cold cold_stage1 (x ∷ h)) → T (lt x.supply_air_temperature (add binary64 cold_stage1 band))
unfolding cold
cold_below x h c =
    either (T (lt x.supply_air_temperature (add binary64 cold_stage1 band))) (lt x.supply_air_temperature cold_stage1) _
    (rw (since_step (λ s. lt (supply_of s) (add binary64 cold_stage1 band)) (λ s. lt (supply_of s) cold_stage1) x h) at c)
    (λ b. lt_le x.supply_air_temperature cold_stage1 (add binary64 cold_stage1 band) b (unfold le add of_bits in tt))
    (λ b. and_l (lt x.supply_air_temperature (add binary64 cold_stage1 band)) _ b)

warm_above : (x : FreezeRow) (h : Past) → T (warm (x ∷ h)) → T (lt (sub binary64 warm_level band) x.supply_air_temperature)
unfolding warm
warm_above x h w =
    either (T (lt (sub binary64 warm_level band) x.supply_air_temperature)) (lt warm_level x.supply_air_temperature) _
    (rw (since_step (λ s. lt (sub binary64 warm_level band) (supply_of s)) (λ s. lt warm_level (supply_of s)) x h) at w)
    (λ b. le_lt (sub binary64 warm_level band) warm_level x.supply_air_temperature (unfold le sub of_bits in tt) b)
    (λ b. and_l (lt (sub binary64 warm_level band) x.supply_air_temperature) _ b)

cold_not_warm : (h : Past) → T (cold cold_stage1 h) → T (warm h) → ⊥
cold_not_warm [] c w = fails (cold cold_stage1 []) (cold_none cold_stage1) c
cold_not_warm (x ∷ h) c w =
    let t = x.supply_air_temperature in
    lt_excludes (sub binary64 warm_level band) t (warm_above x h w)
    (lt→le t (sub binary64 warm_level band) (lt_le t (add binary64 cold_stage1 band) (sub binary64 warm_level band) (cold_below x h c) (unfold le add sub of_bits in tt)))

-- what has passed is true here, and at the row before
passed_here : (n : Float) (u : Past → Bool) → u [] ≡ false → (h : Past) → T (passed_for n u h) → T (u h)
passed_here n u e [] p = absurd (fails (passed_for n u []) (passed_none time_of_row u e n) p)
passed_here n u e (x ∷ h) p = and_l (u (x ∷ h)) _ (rw (passed_step time_of_row u e n x h) at p)

passed_before : (n : Float) (u : Past → Bool) → u [] ≡ false → (x : FreezeRow) (h : Past) → T (passed_for n u (x ∷ h)) → T (u h)
passed_before n u e x h p =
    either (T (u h)) (u h && _) (passed_for n u h) (and_r (u (x ∷ h)) _ (rw (passed_step time_of_row u e n x h) at p)) (λ b. and_l (u h) _ b) (λ b. passed_here n u e h b)

recovery_none : recovery [] ≡ false
unfolding recovery rises
recovery_none = rw warm_passed_none refl

-- a recovery is warm
recovery_warm : (h : Past) → T (recovery h) → T (warm h)
unfolding recovery
recovery_warm [] r = absurd (fails (recovery []) recovery_none r)
recovery_warm (x ∷ h) r =
    passed_here five_minutes warm warm_none (x ∷ h) (and_l (passed_for five_minutes warm (x ∷ h)) (not (passed_for five_minutes warm h)) (rw (rises_step (passed_for five_minutes warm) warm_passed_none x h) at r))

-- two neighbouring rows do not both end an hour
ended : (h : Past) → T (end_of_hour_kept h) → T (lapsed time_of_row hour holding h)
unfolding end_of_hour_kept
ended [] o = absurd (fails (lapses time_of_row hour holding []) (lapses_none time_of_row holding holding_none hour) o)
ended (x ∷ h) o =
    and_l (lapsed time_of_row hour holding (x ∷ h)) (not (lapsed time_of_row hour holding h))
    (rw (sym (lapses_is_rise time_of_row holding holding_none hour x h), rises_step (lapsed time_of_row hour holding) (lapsed_none time_of_row holding holding_none hour) x h) at o)

ended_once : (x : FreezeRow) (h : Past) → T (end_of_hour_kept (x ∷ h)) → T (end_of_hour_kept h) → ⊥
unfolding end_of_hour_kept
ended_once x h o p =
    no (lapsed time_of_row hour holding h)
    (and_r (lapsed time_of_row hour holding (x ∷ h)) (not (lapsed time_of_row hour holding h))
    (rw (sym (lapses_is_rise time_of_row holding holding_none hour x h), rises_step (lapsed time_of_row hour holding) (lapsed_none time_of_row holding holding_none hour) x h) at o))
    (ended h (unfold end_of_hour_kept in p))
  where
    no : (b : Bool) → T (not b) → T b → ⊥
    no true a b = a
    no false a b = b

-- a recovery does not fall between two rows with a stage 1 call
no_gap : (x : FreezeRow) (h : Past) → T (stage1_call_kept (x ∷ h)) → T (stage1_call_kept h) → T (recovery h) → ⊥
unfolding stage1_call_by
no_gap x h s c r =
    let w = recovery_warm h r in
    either ⊥ (passed_for five_minutes (cold cold_stage1) h) (end_of_hour_kept h) c (λ p. cold_not_warm h (passed_here five_minutes (cold cold_stage1) (cold_none cold_stage1) h p) w)
    (λ o. either ⊥ (passed_for five_minutes (cold cold_stage1) (x ∷ h)) (end_of_hour_kept (x ∷ h)) s (λ p. cold_not_warm h (passed_before five_minutes (cold cold_stage1) (cold_none cold_stage1) x h p) w) (λ q. ended_once x h q o))

call1_kept_none : stage1_call_kept [] ≡ false
call1_kept_none = call1_none true

-- where stage 1 is called its latch is on, or a recovery falls on the row
called : (h : Past) → T (stage1_call_kept h) → T (latched stage1_call_kept recovery h || recovery h)
called [] s = absurd (fails (stage1_call_kept []) call1_kept_none s)
called (x ∷ h) s =
    rw (latched_step stage1_call_kept recovery call1_kept_none x h)
    (go (recovery (x ∷ h)) (stage1_call_kept (x ∷ h)) (stage1_call_kept h) (latched stage1_call_kept recovery h) (recovery h) s (λ c. called h c) (λ c r. no_gap x h s c r))
  where
    go : (r s c l q : Bool) → T s → (T c → T (l || q)) → (T c → T q → ⊥) → T (not r && ((s && not c) || l) || r)
    go true s c l q a f g = tt
    go false true false l q a f g = tt
    go false true true true q a f g = tt
    go false true true false q a f g = absurd (g tt (f tt))
    go false false c l q a f g = absurd a

-- on an end_of_hour row, stage 3 where a trip stands; else stage 1, or 0 where a recovery falls on the row
pub hour_hands_over : (l : List FreezeRow) → end_of_hour_kept (accepted verdict_of l) ≡ true → stage_after_kept l ≡ cond (tripped l) 3 (cond (recovery (accepted verdict_of l)) 0 1)
unfolding stage_after_kept stage_by tripped
hour_hands_over l e = at (accepted verdict_of l) e
  where
    call : (h : Past) → T (end_of_hour_kept h) → T (stage1_call_kept h)
    call h o = unfold stage1_call_by in or_r (passed_for five_minutes (cold cold_stage1) h) (end_of_hour_kept h) o

    off : (h : Past) → T (recovery h) → T (latched stage1_call_kept recovery h) → ⊥
    off [] r a = fails (latched stage1_call_kept recovery []) (latched_none stage1_call_kept recovery) a
    off (x ∷ h) r a = clears (recovery (x ∷ h)) _ r (rw (latched_step stage1_call_kept recovery call1_kept_none x h) at a)
      where
        clears : (a b : Bool) → T a → T (not a && b) → ⊥
        clears true b r t = t
        clears false b r t = r

    one : (h : Past) → end_of_hour_kept h ≡ true → latched stage1_call_kept recovery h ≡ not (recovery h)
    one h e =
        opposite (latched stage1_call_kept recovery h) (recovery h) (λ a r. off h r a)
        (λ n. either (T (latched stage1_call_kept recovery h)) (latched stage1_call_kept recovery h) (recovery h) (called h (call h (holds (end_of_hour_kept h) e))) (λ a. a) (λ r. absurd (n r)))

    two : (h : Past) → end_of_hour_kept h ≡ true → latched holding end_of_hour_kept h ≡ false
    two [] e = latched_none holding end_of_hour_kept
    two (x ∷ h) e = rw (latched_step holding end_of_hour_kept holding_none x h, e) refl

    at : (h : Past) → end_of_hour_kept h ≡ true → stage_kept h ≡ cond (latched stage3_call reset_row h) 3 (cond (recovery h) 0 1)
    at h e = rw (two h e, one h e) (go (latched stage3_call reset_row h) (recovery h))
      where
        go : (t r : Bool) → ◌≡◌ {A = ℕ} (cond t 3 (cond false 2 (cond (not r) 1 0))) (cond t 3 (cond r 0 1))
        go true r = refl
        go false true = refl
        go false false = refl
