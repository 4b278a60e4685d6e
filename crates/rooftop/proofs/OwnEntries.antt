-- From any state, a joined row that is accepted is accepted by the own entries of all three sequences, with the same commands and the same next states; and what the
-- economizer hands on is always finite. Assumes nothing.
use Rattle.std.specs.Prelude.{Ok}
use mathlib.Core.Path.{◌≡◌, refl}
use mathlib.Core.Bool.{Bool, true, false, not, ◌&&◌, ◌||◌, true≢false}
use lib.Dec.{T}
use lib.Ieee.Scale.{finite}
use Rattle.reals.specs.Sign.{is_sign_negative}
use Rattle.reals.specs.Seen.{seen_above}
use Rattle.reals.proofs.Truth.{is_true, holds}
use Rattle.refusals.specs.declared.Refusal.TheVariants.{NotFinite, AlarmOutOfRange, WindowFull}
use Rattle.refusals.specs.Refusals.{Verdict, judge_by, judge, verdict_or_refused}
use Rattle.refusals.proofs.Accepting.{judged, judge_accepts, neither_fits, no_more}
use Rattle.economizer_controller.specs.declared.types.EconomizerRow.{EconomizerRow}
use Rattle.economizer_controller.specs.declared.types.EconomizerState.{EconomizerState}
use Rattle.economizer_controller.specs.Verdict as economizer
use Rattle.economizer_controller.specs.Step as economizer_step
use Rattle.economizer_controller.proofs.CommandsFinite.{min_limit_finite, outdoor_command_finite, return_command_finite}
use Rattle.freeze_protection.specs.Verdict as freeze
use Rattle.freeze_protection.specs.Step as freeze_step
use Rattle.moving_average.specs.State.{moving_average_is_full}
use Rattle.relief_fans.specs.Alarms.{alarms_fit}
use Rattle.relief_fan_group.specs.Verdict as relief
use Rattle.relief_fan_group.specs.Step as relief_step
use Rattle.rooftop.specs.declared.types.RooftopRow.{RooftopRow}
use Rattle.rooftop.specs.declared.types.RooftopState.{RooftopState}
use Rattle.rooftop.specs.Wiring.{economizer_row_of, freeze_row_of, relief_row_of}
use Rattle.rooftop.specs.Verdict.{numbers_finite, handed_on_finite, falls, rooftop_verdict}
use Rattle.rooftop.specs.Step.{economizer_accepted, freeze_accepted, economizer_handed, economizer_at, freeze_handed, freeze_at, relief_handed, relief_at, verdict_at}

-- ---- what the economizer hands on is finite, whatever its state and its row: the 1 that comes last is never given
pub always_finite : (state : EconomizerState) (row : EconomizerRow) → handed_on_finite (economizer_accepted state row).0 ≡ true
unfolding handed_on_finite economizer_accepted
always_finite state row =
    rw (is_true _ (min_limit_finite state row), is_true _ (outdoor_command_finite state row), is_true _ (return_command_finite state row)) refl

-- so a joined row is refused by 1, 2, 3, 11 and 4 alone
pub verdict_is_judged : (state : RooftopState) (row : RooftopRow)
    → verdict_at state row
    ≡ relief.after_judged (judge_by (numbers_finite row) row.time (falls state.economizer.last state.freeze.last state.relief.blocks.last row.time)) row.alarm
    (moving_average_is_full state.relief.window row.time)
unfolding rooftop_verdict
verdict_is_judged state row = rw (always_finite state.economizer (economizer_handed state row)) (no_more _ NotFinite)

twelve : (a b c d e f g h i j k l : Bool) → T (a && b && c && d && e && f && g && h && i && j && k && l)
    → (a ≡ true) × (b ≡ true) × (c ≡ true) × (d ≡ true) × (e ≡ true) × (f ≡ true) × (g ≡ true) × (h ≡ true) × (i ≡ true) × (j ≡ true) × (k ≡ true) × (l ≡ true)
twelve false b c d e f g h i j k l t = absurd t
twelve true false c d e f g h i j k l t = absurd t
twelve true true false d e f g h i j k l t = absurd t
twelve true true true false e f g h i j k l t = absurd t
twelve true true true true false f g h i j k l t = absurd t
twelve true true true true true false g h i j k l t = absurd t
twelve true true true true true true false h i j k l t = absurd t
twelve true true true true true true true false i j k l t = absurd t
twelve true true true true true true true true false j k l t = absurd t
twelve true true true true true true true true true false k l t = absurd t
twelve true true true true true true true true true true false l t = absurd t
twelve true true true true true true true true true true true false t = absurd t
twelve true true true true true true true true true true true true t = (refl, refl, refl, refl, refl, refl, refl, refl, refl, refl, refl, refl)

-- each number of a row whose numbers are finite
pub record EachFinite (row : RooftopRow) : Type 0 where
  pub time : finite row.time ≡ true
  pub outdoor_airflow_normalized : finite row.outdoor_airflow_normalized ≡ true
  pub minimum_outdoor_airflow_setpoint_normalized : finite row.minimum_outdoor_airflow_setpoint_normalized ≡ true
  pub supply_temperature_signal : finite row.supply_temperature_signal ≡ true
  pub outdoor_air_temperature : finite row.outdoor_air_temperature ≡ true
  pub heating_coil : finite row.heating_coil ≡ true
  pub minimum_outdoor_damper : finite row.minimum_outdoor_damper ≡ true
  pub supply_air_temperature : finite row.supply_air_temperature ≡ true
  pub supply_fan_speed : finite row.supply_fan_speed ≡ true
  pub cooling_coil : finite row.cooling_coil ≡ true
  pub mixed_air_temperature : finite row.mixed_air_temperature ≡ true
  pub pressure : finite row.pressure ≡ true

pub each_finite : (row : RooftopRow) → T (numbers_finite row) → EachFinite row
unfolding numbers_finite
each_finite row t =
    let each =
    twelve
    (finite row.time) (finite row.outdoor_airflow_normalized) (finite row.minimum_outdoor_airflow_setpoint_normalized) (finite row.supply_temperature_signal)
    (finite row.outdoor_air_temperature) (finite row.heating_coil) (finite row.minimum_outdoor_damper) (finite row.supply_air_temperature)
    (finite row.supply_fan_speed) (finite row.cooling_coil) (finite row.mixed_air_temperature) (finite row.pressure)
    t in
    record {
      time = each.0;
      outdoor_airflow_normalized = each.1;
      minimum_outdoor_airflow_setpoint_normalized = each.2;
      supply_temperature_signal = each.3;
      outdoor_air_temperature = each.4;
      heating_coil = each.5;
      minimum_outdoor_damper = each.6;
      supply_air_temperature = each.7;
      supply_fan_speed = each.8;
      cooling_coil = each.9;
      mixed_air_temperature = each.10;
      pressure = each.11;
    }

pub time_finite : (row : RooftopRow) → T (numbers_finite row) → T (finite row.time)
time_finite row t = holds _ (each_finite row t).time

none_of_three : (a b c : Bool) → (a || b || c) ≡ false → (a ≡ false) × (b ≡ false) × (c ≡ false)
none_of_three true b c e = absurd (true≢false e)
none_of_three false true c e = absurd (true≢false e)
none_of_three false false true e = absurd (true≢false e)
none_of_three false false false e = (refl, refl, refl)

module _ (state : RooftopState) (row : RooftopRow) (accepted : verdict_at state row ≡ Ok tt) where
  abbrev falling : Bool
  falling = falls state.economizer.last state.freeze.last state.relief.blocks.last row.time

  abbrev judged_here : Verdict
  judged_here = judge_by (numbers_finite row) row.time falling

  abbrev full : Bool
  full = moving_average_is_full state.relief.window row.time

  -- ---- what the tests were
  after : relief.after_judged judged_here row.alarm full ≡ Ok tt
  after = rw (verdict_is_judged state row) at accepted

  judged_ok : judged_here ≡ Ok tt
  unfolding relief.after_judged
  judged_ok =
      let misfit = not (alarms_fit row.alarm) in
      (neither_fits judged_here misfit AlarmOutOfRange (neither_fits (verdict_or_refused judged_here misfit AlarmOutOfRange) full WindowFull after).0).0

  pub tests : T (numbers_finite row) × (is_sign_negative row.time ≡ false) × (falling ≡ false)
  tests = judged (numbers_finite row) row.time falling judged_ok

  not_below : (seen_above state.economizer.last row.time ≡ false) × (seen_above state.freeze.last row.time ≡ false) × (seen_above state.relief.blocks.last row.time ≡ false)
  unfolding falls
  not_below = none_of_three _ _ _ tests.2

  numbers : EachFinite row
  numbers = each_finite row tests.0

  -- ---- the economizer's own entry
  economizer_numbers : T (economizer.numbers_finite (economizer_handed state row))
  unfolding economizer.numbers_finite economizer_row_of
  economizer_numbers = rw (numbers.time, numbers.outdoor_airflow_normalized, numbers.minimum_outdoor_airflow_setpoint_normalized, numbers.supply_temperature_signal, numbers.outdoor_air_temperature) tt

  pub economizer_accepts : economizer.economizer_verdict state.economizer (economizer_handed state row) ≡ Ok tt
  unfolding economizer.economizer_verdict judge economizer_row_of
  economizer_accepts = judge_accepts (economizer.numbers_finite (economizer_handed state row)) row.time _ economizer_numbers tests.1 not_below.0

  pub own_economizer : economizer_step.economizer_row state.economizer (economizer_handed state row)
      ≡ record { answer = Ok (economizer_at state row).0; state = (economizer_at state row).1 }
  unfolding economizer_step.economizer_row economizer_step.step_by economizer_accepted
  own_economizer = rw economizer_accepts refl

  -- ---- freeze protection's
  freeze_numbers : T (freeze.numbers_finite (freeze_handed state row))
  unfolding freeze.numbers_finite freeze_row_of economizer_accepted
  freeze_numbers =
      rw (
        numbers.time,
        is_true _ (min_limit_finite state.economizer (economizer_handed state row)),
        is_true _ (outdoor_command_finite state.economizer (economizer_handed state row)),
        numbers.heating_coil,
        numbers.minimum_outdoor_damper,
        is_true _ (return_command_finite state.economizer (economizer_handed state row)),
        numbers.supply_air_temperature,
        numbers.supply_fan_speed,
        numbers.cooling_coil,
        numbers.mixed_air_temperature,
      )
      tt

  pub freeze_accepts : freeze.freeze_verdict state.freeze (freeze_handed state row) ≡ Ok tt
  unfolding freeze.freeze_verdict judge freeze_row_of
  freeze_accepts = judge_accepts (freeze.numbers_finite (freeze_handed state row)) row.time _ freeze_numbers tests.1 not_below.1

  pub own_freeze : freeze_step.freeze_row state.freeze (freeze_handed state row) ≡ record { answer = Ok (freeze_at state row).0; state = (freeze_at state row).1 }
  unfolding freeze_step.freeze_row freeze_step.step_by freeze_accepted
  own_freeze = rw freeze_accepts refl

  -- ---- the relief fan group's
  relief_numbers : T (relief.numbers_finite (relief_handed state row))
  unfolding relief.numbers_finite relief_row_of
  relief_numbers = rw (numbers.time, numbers.pressure) tt

  relief_judged : judge (relief.numbers_finite (relief_handed state row)) row.time state.relief.blocks.last ≡ Ok tt
  unfolding judge
  relief_judged = judge_accepts (relief.numbers_finite (relief_handed state row)) row.time _ relief_numbers tests.1 not_below.2

  pub relief_accepts : relief.relief_verdict state.relief.blocks (relief_handed state row) full ≡ Ok tt
  unfolding relief.relief_verdict relief_row_of
  relief_accepts = rw relief_judged (rw judged_ok at after)

  pub own_relief : relief_step.relief_row state.relief (relief_handed state row) ≡ record { answer = Ok (relief_at state row).0; state = (relief_at state row).1 }
  unfolding relief_step.relief_row relief_step.step_by relief_row_of
  own_relief = rw relief_accepts refl
