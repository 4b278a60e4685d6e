-- Demand 3 for relief rows: for every list of rows from a fresh start, refused ones included, and every place in it, the row's answer is the refusal that the list
-- alone tells, or else its mean and both pulses are those read off the accepted rows up to there. Assumes nothing.
use Rattle.std.specs.Prelude.{Ok, Err}
use Prim.Native.Nat.{ℕ, suc, ◌<◌}
use mathlib.Core.Path.{◌≡◌, refl, ap, ◌∙◌}
use mathlib.Core.Bool.{Bool}
use mathlib.Core.List.{List, [], ◌∷◌, reverse}
use lib.Dec.{T}
use lib.ListN.{length, get_or, take}
use lib.Ieee.Fits.{and_l}
use lib.Ieee.Scale.{finite}
use Rattle.refusals.specs.Refusals.{Verdict}
use Rattle.past.specs.Stepped.{in_order}
use Rattle.past.specs.Acceptance.{last_time, verdict_after}
use Rattle.logical.specs.Run.{run}
use Rattle.past.specs.Whole.{Told, told_by, next_by, state_after, read_all}
use Rattle.past.specs.Whole as whole
use Rattle.past.proofs.Whole.{good_accepted, state_is, run_reads, read_at_lem, read_newest}
use Rattle.past.proofs.Sequence.{told_where_accepted}
use Rattle.moving_average.specs.Past.{moving_average_of}
use Rattle.moving_average.specs.State.{moving_average_is_full}
use Rattle.relief_fans.specs.Alarms.{alarms_fit}
use Rattle.relief_fan_group.specs.declared.types.ReliefRow.{ReliefRow}
use Rattle.relief_fan_group.specs.declared.types.ReliefState.{ReliefState}
use Rattle.relief_fan_group.specs.Verdict.{numbers_finite, relief_verdict}
use Rattle.relief_fan_group.specs.Signals.{pressure_control, relief_signals}
use Rattle.relief_fan_group.specs.Commands.{relief_commands}
use Rattle.relief_fan_group.specs.Step.{relief_fresh, relief_row, signals_at, step_by}
use Rattle.relief_fan_group.specs.Reading.{Past, time_of_row, pressure_of_row, alarm_of_row, ReliefReading, relief_reading, verdict_of}
use Rattle.relief_fan_group.specs.Blocks.{blocks_of, signals_of}
use Rattle.relief_fan_group.specs.Told.{pulses_in, pulses_told, relief_told, relief_returned}
use Rattle.relief_fan_group.specs.Left.{timers_of, timers_told, timers_read}
use Rattle.relief_fan_group.proofs.Windowed as windowed
use Rattle.relief_fan_group.proofs.Blocks.{state_of, signals_are, fresh_is, up_pulse_lem, down_pulse_lem, last_reads, timers_read_lem}

-- ---- what holds of the accepted rows: their times are in order, and the window had room for each
pub time_finite : (x : ReliefRow) → T (numbers_finite x) → T (finite x.time)
unfolding numbers_finite
time_finite x t = and_l (finite x.time) (finite x.pressure) t

abbrev pub windowed_row : windowed.WindowedRow ReliefRow
windowed_row = record { time = time_of_row; value = pressure_of_row; alarm = alarm_of_row; all_finite = numbers_finite; time_finite = time_finite }

abbrev pub good : Past → Bool
good = windowed.good windowed_row

pub good_order : (h : Past) → T (good h) → T (in_order time_of_row h)
good_order = windowed.good_order windowed_row

-- the verdict on the state of a past is that of the list
verdict_is : (x : ReliefRow) (h : Past) → T (good h) → relief_verdict (blocks_of h) x (moving_average_is_full (moving_average_of time_of_row pressure_of_row h) x.time) ≡ verdict_of h x
unfolding relief_verdict verdict_of
verdict_is x h g = windowed.verdict_is windowed_row x h g (blocks_of h).last (last_reads h)

-- an accepted row keeps all that: no refusal fits it
module _ (x : ReliefRow) (h : Past) (e : verdict_of h x ≡ Ok tt) where
  pub accepted_judged : verdict_after time_of_row numbers_finite h x ≡ Ok tt
  unfolding verdict_of
  accepted_judged = windowed.accepted_judged windowed_row x h e

  pub accepted_fits : T (alarms_fit x.alarm)
  unfolding verdict_of
  accepted_fits = windowed.accepted_fits windowed_row x h e

good_more : (x : ReliefRow) (h : Past) → T (good h) → verdict_of h x ≡ Ok tt → T (good (x ∷ h))
unfolding verdict_of
good_more = windowed.good_more windowed_row

good_none : T (good [])
good_none = windowed.good_none windowed_row

-- the accepted rows of every list are so
pub accepted_good : (l : List ReliefRow) → T (good (whole.accepted verdict_of l))
accepted_good l = good_accepted verdict_of good good_none good_more l

-- ---- the answer and the returned state of a row after the past h
-- the signals of an accepted row are the readings
pub reads_here : (x : ReliefRow) (h : Past) → T (in_order time_of_row (x ∷ h)) → pulses_in (signals_of x h).control.average (signals_of x h) ≡ relief_reading (x ∷ h)
unfolding relief_reading
reads_here x h o = rw (up_pulse_lem x h o, down_pulse_lem x h o) (unfold relief_signals pressure_control in refl)

answers : (x : ReliefRow) (h : Past) → T (good h) → relief_told (state_of h) x ≡ told_by (verdict_of h x) (relief_reading (x ∷ h))
unfolding relief_row
answers x h g = ap (λ (v : Verdict). pulses_told (step_by v (state_of h) x).answer (signals_at (state_of h) x)) (verdict_is x h g) ∙ go (verdict_of h x) (good_more x h g)
  where
    go : (v : Verdict) → (v ≡ Ok tt → T (good (x ∷ h))) → pulses_told (step_by v (state_of h) x).answer (signals_at (state_of h) x) ≡ told_by v (relief_reading (x ∷ h))
    go (Ok tt) f = unfold step_by relief_commands in (rw (signals_are x h) (ap Told.Taken (reads_here x h (good_order (x ∷ h) (f refl)))))
    go (Err r) f = unfold step_by in refl

moves : (x : ReliefRow) (h : Past) → T (good h) → relief_returned (state_of h) x ≡ next_by (verdict_of h x) (state_of (x ∷ h)) (state_of h)
unfolding relief_row
moves x h g = ap (λ (v : Verdict). (step_by v (state_of h) x).state) (verdict_is x h g) ∙ go (verdict_of h x)
  where
    go : (v : Verdict) → (step_by v (state_of h) x).state ≡ next_by v (state_of (x ∷ h)) (state_of h)
    go (Ok tt) = unfold step_by in (rw (signals_are x h) (unfold blocks_of moving_average_of in refl))
    go (Err r) = unfold step_by in refl

-- the whole list at once: the answers of the run are what the list tells at each place, in order
pub relief_demand_3 : (rows : List ReliefRow) → run relief_told relief_returned relief_fresh rows ≡ read_all verdict_of relief_reading [] rows
relief_demand_3 rows = rw fresh_is (run_reads verdict_of good relief_reading relief_told relief_returned state_of good_none good_more answers moves rows)

-- the same place by place: row i gets what the rows 0 to i tell
pub relief_demand_3_at : (other : Told ReliefReading) (rows : List ReliefRow) (i : ℕ) → i < length rows
    → get_or (run relief_told relief_returned relief_fresh rows) i other ≡ read_newest verdict_of relief_reading other (reverse (take (suc i) rows))
relief_demand_3_at other rows i l = rw (relief_demand_3 rows) (read_at_lem verdict_of relief_reading other [] rows i l)

-- ---- the state that a run hands to the row after the rows l is that of the accepted ones
pub state_after_lem : (l : List ReliefRow) → state_after relief_returned relief_fresh l ≡ state_of (whole.accepted verdict_of l)
state_after_lem l = rw fresh_is (state_is verdict_of good relief_reading relief_told relief_returned state_of good_none good_more answers moves l)

-- so the last accepted time that it keeps, its window, and the verdict on a row are those that the list tells
pub last_after : (l : List ReliefRow) → (state_after relief_returned relief_fresh l).blocks.last ≡ last_time time_of_row (whole.accepted verdict_of l)
last_after l = rw (state_after_lem l) (last_reads (whole.accepted verdict_of l))

pub window_after : (l : List ReliefRow) → (state_after relief_returned relief_fresh l).window ≡ moving_average_of time_of_row pressure_of_row (whole.accepted verdict_of l)
window_after l = ap (λ (s : ReliefState). s.window) (state_after_lem l)

pub verdict_reads : (x : ReliefRow) (l : List ReliefRow) → relief_verdict (state_after relief_returned relief_fresh l).blocks x (moving_average_is_full (state_after relief_returned relief_fresh l).window x.time) ≡ verdict_of (whole.accepted verdict_of l) x
verdict_reads x l = rw (state_after_lem l) (verdict_is x (whole.accepted verdict_of l) (accepted_good l))

-- and the mean and both pulses among the signals of an accepted row
pub signals_read : (x : ReliefRow) (l : List ReliefRow) → verdict_of (whole.accepted verdict_of l) x ≡ Ok tt
    → let signals = signals_at (state_after relief_returned relief_fresh l) x in pulses_in signals.control.average signals ≡ relief_reading (x ∷ whole.accepted verdict_of l)
signals_read x l e =
    let h = whole.accepted verdict_of l in
    rw (state_after_lem l, signals_are x h) (reads_here x h (good_order (x ∷ h) (good_more x h (accepted_good l) e)))

-- ---- an accepted row's commands are worked from the signals that its past gives
pub commands_are : (x : ReliefRow) (l : List ReliefRow) → verdict_of (whole.accepted verdict_of l) x ≡ Ok tt
    → (relief_row (state_after relief_returned relief_fresh l) x).answer ≡ Ok (relief_commands x (signals_of x (whole.accepted verdict_of l)))
unfolding relief_row
commands_are x l e = rw (state_after_lem l, verdict_is x (whole.accepted verdict_of l) (accepted_good l), e) (unfold step_by in rw (signals_are x (whole.accepted verdict_of l)) refl)

-- ---- what a display shows of the timers
shows : (x : ReliefRow) (h : Past) → T (good h) → timers_told (state_of h) x ≡ told_by (verdict_of h x) (timers_read (x ∷ h))
shows x h g =
    rw (verdict_is x h g, signals_are x h)
    (told_where_accepted (verdict_of h x) (timers_of (blocks_of h) (signals_of x h)) (timers_read (x ∷ h)) (λ e. timers_read_lem x h (good_order (x ∷ h) (good_more x h g e))))

-- for every list of rows: the marks, the elapsed times and what is left are those read off the accepted rows
pub relief_timers : (rows : List ReliefRow) → run timers_told relief_returned relief_fresh rows ≡ read_all verdict_of timers_read [] rows
relief_timers rows = rw fresh_is (run_reads verdict_of good timers_read timers_told relief_returned state_of good_none good_more shows moves rows)
