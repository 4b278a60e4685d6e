-- What the cases R3 and R4 speak of.
use Rattle.std.specs.Prelude.{ℕ, ◌<◌, ◌≡◌, true, false, cond, List, map, eqb, ℤ, pos, negsuc, Float, Ok, Err}
use Rattle.std.specs.Float.{binary64}
use Rattle.std.specs.Float.Ieee.{sub, le}
use Rattle.reals.specs.Four.{real, flag}
use Rattle.logical.specs.declared.true_delay_on_init.TrueDelayOnInitState.{TrueDelayOnInitState}
use Rattle.logical.specs.TrueDelayOnInit.{true_delay_on_init_output, true_delay_on_init_update}
use Rattle.past.specs.Whole.{Told, NotTaken, Taken}
use Rattle.relief_fans.specs.Alarms.{alarms_fit}
use Rattle.relief_fans.specs.Commands.{level}
use Rattle.relief_fan_group.specs.declared.types.ReliefRow.{ReliefRow}
use Rattle.relief_fan_group.specs.declared.types.ReliefState.{ReliefState}
use Rattle.relief_fan_group.specs.declared.types.ReliefCommands.{ReliefCommands}
use Rattle.relief_fan_group.specs.Step.{ReliefAnswer}
use Rattle.relief_fan_group.specs.Step.{relief_row}
use Rattle.relief_fan_group.specs.Alarms.{speeds_of, dampers_of, with_alarm, state_remembering}
use Rattle.reals.specs.Constants.{whole}
use Rattle.cases.specs.Words.{zero}

-- of an answer, the refusal or a part of its commands
abbrev pub told : {A : Type 0} → (ReliefCommands → A) → ReliefAnswer → Told A
told f (Ok c) = Taken (f c)
told f (Err r) = NotTaken r

-- ---- R3: the alarm guard, for any state and row
-- an alarm, with none in place of 3
abbrev pub without3 : ℤ → ℤ
without3 (pos n) = pos (cond (eqb n 3) 0 n)
without3 (negsuc n) = negsuc n

pub record AlarmGuard (state : ReliefState) (row : ReliefRow) : Type 0 where
  -- an unproven fan at alarm 2 has damper 0
  pub alarm2 : (commands : ReliefCommands) → (relief_row state row).answer ≡ Ok commands
      → (fan : ℕ) → fan < 4 → level row.alarm fan ≡ pos 2 → flag row.proof fan ≡ false → real (dampers_of commands) fan ≡ zero
  -- alarm 3 does nothing: the answer is that of the row without it, and so is the state, but for the alarms that it remembers
  pub alarm3 : (relief_row state (with_alarm row (map without3 row.alarm))).answer ≡ (relief_row state row).answer
  pub alarm3_state : (alarms : List ℤ)
      → state_remembering alarms (relief_row state (with_alarm row (map without3 row.alarm))).state ≡ state_remembering alarms (relief_row state row).state
  -- the guard does not touch a speed: it is the same with any alarms, where these and those fit their bytes or neither do
  pub speed : (alarm : List ℤ) → alarms_fit alarm ≡ alarms_fit row.alarm
      → told speeds_of (relief_row state (with_alarm row alarm)).answer ≡ told speeds_of (relief_row state row).answer

-- ---- R4: a delay that waits 2 s on row 0 too: false on that row, at any time, and true later where its input has been on for 2 s
pub record Waits (delay : TrueDelayOnInitState) : Type 0 where
  pub first : (start : Float) → true_delay_on_init_output delay start true ≡ false
  pub later : (start t : Float) → true_delay_on_init_output (true_delay_on_init_update delay start true) t true ≡ le (whole 2) (sub binary64 t start)
