-- Cases R1, R3 and R4 of a relief row. Assumes nothing.
use Rattle.std.specs.Prelude.{Ok, Err}
use Prim.Native.Nat.{ℕ, zero, suc, ◌<◌}
use native.Mathlib.Omega.{arith}
use mathlib.Core.Path.{◌≡◌, refl, sym, ap, ◌∙◌}
use mathlib.Core.Bool.{Bool, true, false, not, cond}
use mathlib.Core.List.{List, [], ◌∷◌, map, zip_with}
use lib.Dec.{T, eqb, eqb→eq}
use lib.Ieee.Fits.{and_l, and_r}
use lib.IntN.{ℤ, pos, negsuc}
use lib.Ieee.{Float, round, of_bits}
use lib.Ieee.Scale.{finite}
use Rattle.reals.specs.Constants.{plus_zero}
use Rattle.reals.specs.Four.{real}
use Rattle.reals.specs.Seen.{seen_above, seen_elapsed}
use Rattle.reals.specs.Sign.{is_time, is_sign_negative}
use Rattle.reals.proofs.Truth.{is_true}
use Rattle.logical.specs.Timer.{entry_time}
use Rattle.logical.specs.TrueDelayOnInit.{true_delay_on_init_new, true_delay_on_init_output, true_delay_on_init_update}
use Rattle.logical.proofs.Differ.{delays_differ_on_row_0}
use Rattle.refusals.specs.Refusals.{Verdict}
use Rattle.refusals.specs.Refusals.{verdict_or_refused, judge}
use Rattle.past.specs.Whole.{Taken}
use Rattle.moving_average.specs.Window.{drop_old}
use Rattle.moving_average.specs.State.{held, moving_average_new, moving_average_is_full}
use Rattle.moving_average.proofs.FirstRows.{first_mean}
use Rattle.relief_fans.specs.Alarms.{fits_byte, alarms_fit}
use Rattle.relief_fans.specs.Commands.{level, is_level2, alarm_off_guard, damper}
use Rattle.relief_fans.specs.Blocks.{delay_at}
use Rattle.relief_fan_group.specs.declared.types.ReliefRow.{ReliefRow}
use Rattle.relief_fan_group.specs.declared.types.ReliefState.{ReliefState}
use Rattle.relief_fan_group.specs.declared.types.ReliefCommands.{ReliefCommands}
use Rattle.relief_fan_group.specs.Step.{ReliefAnswer}
use Rattle.relief_fan_group.specs.Constants.{proof_time}
use Rattle.relief_fan_group.specs.Verdict.{numbers_finite, after_judged, relief_verdict}
use Rattle.relief_fan_group.specs.Signals.{pressure_control, relief_signals}
use Rattle.relief_fan_group.specs.Commands.{relief_commands}
use Rattle.relief_fan_group.specs.Step.{relief_blocks, relief_fresh, signals_at, step_by, relief_row}
use Rattle.relief_fan_group.specs.Alarms.{speeds_of, dampers_of, with_alarm, state_remembering}
use Rattle.relief_fan_group.proofs.Alarms.{alarm_2_shuts, speeds_whatever_the_alarm, signals_whatever_the_alarm, verdict_by_fit, next_whatever_the_alarm}
use Rattle.cases.specs.Words as Words
use Rattle.cases.specs.Relief.{told, without3, AlarmGuard, Waits}

-- ---- R1
zero_is : plus_zero ≡ Words.zero
unfolding round of_bits
zero_is = refl

sign_off : (b : Bool) → T (not b) → b ≡ false
sign_off true h = absurd h
sign_off false h = refl

-- a fresh window is not full, and a first row of finite numbers whose time has its sign bit clear and whose alarms fit is accepted
empty_not_full : (t : Float) → moving_average_is_full moving_average_new t ≡ false
unfolding moving_average_is_full moving_average_new held zip_with drop_old
empty_not_full t = refl

module _ (row : ReliefRow) (a : T (is_time row.time)) (b : T (finite row.pressure)) (f : T (alarms_fit row.alarm)) where
  first_taken : relief_verdict relief_blocks row (moving_average_is_full moving_average_new row.time) ≡ Ok tt
  unfolding relief_verdict after_judged verdict_or_refused judge numbers_finite seen_above relief_blocks
  first_taken =
      rw (
        empty_not_full row.time,
        is_true (finite row.time) (and_l (finite row.time) (not (is_sign_negative row.time)) a),
        is_true (finite row.pressure) b,
        is_true (alarms_fit row.alarm) f,
        sign_off (is_sign_negative row.time) (and_r (finite row.time) (not (is_sign_negative row.time)) a),
      )
      refl

  pub first_mean_told : told (λ c. c.averaged_pressure) (relief_row relief_fresh row).answer ≡ Taken Words.zero
  unfolding relief_row relief_fresh step_by relief_commands signals_at relief_signals pressure_control
  first_mean_told = rw first_taken (ap Taken (first_mean row.time row.pressure (and_l (finite row.time) (not (is_sign_negative row.time)) a) b ∙ zero_is))

-- ---- R4: each of the eight delays of a fresh state is a fresh delay of 2 s
fresh_waits : Waits (true_delay_on_init_new proof_time)
unfolding true_delay_on_init_new true_delay_on_init_output true_delay_on_init_update entry_time seen_elapsed round of_bits
fresh_waits = record { first = λ start. (delays_differ_on_row_0 start proof_time).1; later = λ start t. refl }

pub waits : (fan : ℕ) → fan < 4 → Waits (delay_at relief_fresh.blocks.tru_del fan) × Waits (delay_at relief_fresh.blocks.tru_del1 fan)
unfolding relief_fresh relief_blocks
waits zero l = (fresh_waits, fresh_waits)
waits (suc zero) l = (fresh_waits, fresh_waits)
waits (suc (suc zero)) l = (fresh_waits, fresh_waits)
waits (suc (suc (suc zero))) l = (fresh_waits, fresh_waits)
waits (suc (suc (suc (suc fan)))) l = absurd (omega arith)

-- ---- R3
-- the guard asks only whether an alarm is 2
not_2 : (z : ℤ) → is_level2 (without3 z) ≡ is_level2 z
unfolding is_level2
not_2 (pos n) = go (eqb n 3) refl
  where
    go : (b : Bool) → eqb n 3 ≡ b → eqb (cond b 0 n) 2 ≡ eqb n 2
    go true e = rw (eqb→eq n 3 (rw e tt)) refl
    go false e = refl
not_2 (negsuc n) = refl

-- and 3 fits its byte as 0 does
fits_3 : (z : ℤ) → fits_byte (without3 z) ≡ fits_byte z
unfolding fits_byte
fits_3 (pos n) = go (eqb n 3) refl
  where
    go : (b : Bool) → eqb n 3 ≡ b → fits_byte (pos (cond b 0 n)) ≡ fits_byte (pos n)
    go true e = rw (eqb→eq n 3 (rw e tt)) refl
    go false e = refl
fits_3 (negsuc n) = refl

-- so without alarms 3 each damper is the same, and as many alarms fit
levels : (f : ℤ → Bool) → ((z : ℤ) → f (without3 z) ≡ f z) → (alarm : List ℤ) (i : ℕ) → f (level (map without3 alarm) i) ≡ f (level alarm i)
levels f e [] i = refl
levels f e (z ∷ alarm) zero = e z
levels f e (z ∷ alarm) (suc i) = levels f e alarm i

dampers : (opened : List Bool) (alarm : List ℤ) (proof : List Bool) → damper opened (map without3 alarm) proof ≡ damper opened alarm proof
unfolding damper alarm_off_guard
dampers opened alarm proof = let same = levels is_level2 not_2 alarm in rw (same 0, same 1, same 2, same 3) refl

fits_same : (alarm : List ℤ) → alarms_fit (map without3 alarm) ≡ alarms_fit alarm
unfolding alarms_fit
fits_same alarm = let same = levels fits_byte fits_3 alarm in rw (same 0, same 1, same 2, same 3) refl

-- the commands of an answer, if it holds any
commands_or : ReliefCommands → ReliefAnswer → ReliefCommands
commands_or other (Ok c) = c
commands_or other (Err r) = other

module _ (state : ReliefState) (row : ReliefRow) where
  -- the commands of an accepted row
  commands_are : (v : Verdict) (c : ReliefCommands) → (step_by v state row).answer ≡ Ok c → relief_commands row (signals_at state row) ≡ c
  unfolding step_by commands_or
  commands_are (Ok tt) c e = ap (commands_or c) e
  commands_are (Err r) c e = ap (commands_or (relief_commands row (signals_at state row))) e

  -- signals do not depend on the alarms, commands not on alarms 3
  signals_same : (alarm : List ℤ) → signals_at state (with_alarm row alarm) ≡ signals_at state row
  unfolding signals_at
  signals_same alarm = signals_whatever_the_alarm row (signals_at state row) alarm state.blocks _

  commands_same : relief_commands (with_alarm row (map without3 row.alarm)) (signals_at state row) ≡ relief_commands row (signals_at state row)
  unfolding relief_commands
  commands_same = rw (dampers _ row.alarm row.proof) refl

  -- so the answer does not depend on alarms 3, the state in nothing but what it remembers, and no speed on any
  answer_without_3 : (v : Verdict) → (step_by v state (with_alarm row (map without3 row.alarm))).answer ≡ (step_by v state row).answer
  unfolding step_by
  answer_without_3 (Ok tt) = rw (signals_same (map without3 row.alarm), commands_same) refl
  answer_without_3 (Err r) = refl

  state_without_3 : (alarms : List ℤ) (v : Verdict)
      → state_remembering alarms (step_by v state (with_alarm row (map without3 row.alarm))).state ≡ state_remembering alarms (step_by v state row).state
  unfolding step_by
  state_without_3 alarms (Ok tt) = rw (signals_same (map without3 row.alarm), next_whatever_the_alarm row (signals_at state row) (map without3 row.alarm) state.blocks) refl
  state_without_3 alarms (Err r) = refl

  speeds : (alarm : List ℤ) (v : Verdict) → told speeds_of (step_by v state (with_alarm row alarm)).answer ≡ told speeds_of (step_by v state row).answer
  unfolding step_by
  speeds alarm (Ok tt) = rw (signals_same alarm) (ap Taken (speeds_whatever_the_alarm row (signals_at state row) alarm))
  speeds alarm (Err r) = refl

  abbrev full : Bool
  full = moving_average_is_full state.window row.time

  verdict_same : (alarm : List ℤ) → alarms_fit alarm ≡ alarms_fit row.alarm → relief_verdict state.blocks (with_alarm row alarm) full ≡ relief_verdict state.blocks row full
  verdict_same alarm e = verdict_by_fit row (signals_at state row) alarm e state.blocks full

  pub alarm_guard : AlarmGuard state row
  unfolding relief_row
  alarm_guard = record {
    alarm2 = λ c e fan l a p. ap (λ (c : ReliefCommands). real (dampers_of c) fan) (sym (commands_are _ c e)) ∙ alarm_2_shuts row (signals_at state row) fan l a p ∙ zero_is;
    alarm3 = rw (verdict_same (map without3 row.alarm) (fits_same row.alarm)) (answer_without_3 (relief_verdict state.blocks row full));
    alarm3_state = λ alarms. rw (verdict_same (map without3 row.alarm) (fits_same row.alarm)) (state_without_3 alarms (relief_verdict state.blocks row full));
    speed = λ alarm e. rw (verdict_same alarm e) (speeds alarm (relief_verdict state.blocks row full));
  }
