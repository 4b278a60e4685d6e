-- The proved cases: one table, an entry a case, with its words above it. proofs/Table.antt has the one fact that covers it.
use Rattle.std.specs.Prelude.{ℕ, ◌<◌, ◌≡◌, true, false, [], ◌∷◌, T}
use Rattle.std.specs.Float.Ieee.Scale.{finite}
use Rattle.reals.specs.Sign.{is_time}
use Rattle.past.specs.Whole.{Taken}
use Rattle.relief_fans.specs.Blocks.{delay_at}
use Rattle.relief_fans.specs.Alarms.{alarms_fit}
use Rattle.relief_fan_group.specs.declared.types.ReliefRow.{ReliefRow}
use Rattle.relief_fan_group.specs.declared.types.ReliefState.{ReliefState}
use Rattle.relief_fan_group.specs.Step.{relief_fresh, relief_row}
use Rattle.row_kinds.specs.Rows.{rows_output}
use Rattle.cases.specs.Words.{zero, taken}
use Rattle.cases.specs.Freeze.{FreezeOthers, at, reset_at, stages, signalled, is_cold, calls_stage3, is_held, hour_passed}
use Rattle.cases.specs.Relief.{told, AlarmGuard, Waits}
use Rattle.cases.specs.Economizer.{RisesAndStays, StartsAndWaits}
use Rattle.cases.specs.RowLines.{input_bytes, output_bytes}

-- `o` has, for each time, the fields that the cases leave open; they are any finite numbers
pub record Cases : Type 0 where
  -- F1 0: 277, 299: 277, stage 0; with 300 in place of 299, stage 1.
  pub f1 : (o : ℕ → FreezeOthers)
      → (stages o (at 0 27700 ∷ at 299 27700 ∷ []) ≡ taken (0 ∷ 0 ∷ []))
      × (stages o (at 0 27700 ∷ at 300 27700 ∷ []) ≡ taken (0 ∷ 1 ∷ []))
  -- F2 277.55 is not cold. After a cold row, 277.79 is still cold and 277.81 is not.
  pub f2 : (o : ℕ → FreezeOthers)
      → (signalled o is_cold (at 0 27755 ∷ []) ≡ false ∷ [])
      × (signalled o is_cold (at 0 27700 ∷ at 60 27779 ∷ []) ≡ true ∷ true ∷ [])
      × (signalled o is_cold (at 0 27700 ∷ at 60 27781 ∷ []) ≡ true ∷ false ∷ [])
  -- F3 0 and 300: 273, stage 3. Reset at 360, still 273: stage 2, and 2 at 420. Then 480: 280, 540 and 840: 273: stage 3 at 840. A reset while the call stays true
  -- does not relatch; a new rise does.
  pub f3 : (o : ℕ → FreezeOthers)
      → let rows = at 0 27300 ∷ at 300 27300 ∷ reset_at 360 27300 ∷ at 420 27300 ∷ at 480 28000 ∷ at 540 27300 ∷ at 840 27300 ∷ [] in
      (stages o rows ≡ taken (0 ∷ 3 ∷ 2 ∷ 2 ∷ 2 ∷ 2 ∷ 3 ∷ []))
      × (signalled o calls_stage3 rows ≡ false ∷ true ∷ true ∷ true ∷ false ∷ false ∷ true ∷ [])
  -- F4 as F3 but the reset falls on 300: stage 2 at 300 and at 360. That rise is lost.
  pub f4 : (o : ℕ → FreezeOthers)
      → let rows = at 0 27300 ∷ reset_at 300 27300 ∷ at 360 27300 ∷ at 420 27300 ∷ at 480 28000 ∷ at 540 27300 ∷ at 840 27300 ∷ [] in
      (stages o rows ≡ taken (0 ∷ 2 ∷ 2 ∷ 2 ∷ 2 ∷ 2 ∷ 3 ∷ []))
      × (signalled o calls_stage3 rows ≡ false ∷ true ∷ true ∷ true ∷ false ∷ false ∷ true ∷ [])
  -- F5 0 and 300: 276, 360 and 3900: 278: stage 2 at 3900. The hold drops on that row, so its one-hour timer never passes.
  pub f5 : (o : ℕ → FreezeOthers)
      → let rows = at 0 27600 ∷ at 300 27600 ∷ at 360 27800 ∷ at 3900 27800 ∷ [] in
      (stages o rows ≡ taken (0 ∷ 2 ∷ 2 ∷ 2 ∷ []))
      × (signalled o is_held rows ≡ false ∷ true ∷ true ∷ false ∷ [])
      × (signalled o hour_passed rows ≡ false ∷ false ∷ false ∷ false ∷ [])
  -- F6 0 and 300: 276, 360: 278, 3540 and 3900: 276: stage 1 at 3900.
  pub f6 : (o : ℕ → FreezeOthers)
      → stages o (at 0 27600 ∷ at 300 27600 ∷ at 360 27800 ∷ at 3540 27600 ∷ at 3900 27600 ∷ []) ≡ taken (0 ∷ 2 ∷ 2 ∷ 2 ∷ 1 ∷ [])
  -- R1 the first row's mean is 0 at any pressure.
  pub r1 : (row : ReliefRow) → T (is_time row.time) → T (finite row.pressure) → T (alarms_fit row.alarm)
      → told (λ c. c.averaged_pressure) (relief_row relief_fresh row).answer ≡ Taken zero
  -- R3 an unproven fan at alarm 2 has damper 0; alarm 3 does nothing. The guard does not touch its speed.
  pub r3 : (state : ReliefState) (row : ReliefRow) → AlarmGuard state row
  -- R4 its `TrueDelayState` waits 2 s on row 0 too.
  pub r4 : (fan : ℕ) → fan < 4 → Waits (delay_at relief_fresh.blocks.tru_del fan) × Waits (delay_at relief_fresh.blocks.tru_del1 fan)
  -- E1 the difference to 294.15 must be above 0 to rise and stays while at least −1.
  pub e1 : RisesAndStays
  -- E2 its `TrueDelayState` is true on row 0 if its input is. Later it starts false: outdoor 15 s (14 no, 15 yes), return 180 s.
  pub e2 : StartsAndWaits
  -- Row lines: the program `rows` reads this from standard input (time, flow, setpoint, signal, outdoor 256 K, fan, mode, stage) .. and prints (status, outdoor minimum,
  -- loop on, outdoor command, return command = 1.0) ..
  pub row_lines : rows_output input_bytes ≡ output_bytes
