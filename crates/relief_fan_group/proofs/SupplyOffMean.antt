-- Both supply fans off, from every state, one that no start leads to among them: all four speeds are 0 where the mean among the commands is a number. Where it is a
-- NaN they can be NaN too, and one such state is computed. Assumes nothing.
use Rattle.std.specs.Prelude.{Ok}
use mathlib.Core.Path.{◌≡◌, refl, sym, ap, ◌∙◌}
use mathlib.Core.Bool.{Bool, true, false}
use mathlib.Core.List.{[], ◌∷◌, zip_with}
use lib.Dec.{T}
use lib.IntN.{pos}
use lib.Ieee.{Float, nan, inf, binary64, add, sub, mul, div, neg, le, lt, is_nan, round, of_bits}
use lib.Ieee.Positive.{positive}
use lib.Ieee.Scale.{finite}
use Rattle.reals.specs.Constants.{plus_zero, one, minus_one}
use Rattle.reals.specs.Four.{each4}
use Rattle.reals.specs.Limits.{limit}
use Rattle.reals.specs.Seen.{seen_elapsed, seen_above}
use Rattle.reals.specs.Sign.{is_sign_negative}
use Rattle.reals.specs.Switch.{switch, bool_to_real}
use Rattle.reals.specs.Threshold.{crosses, threshold_above, threshold_output}
use Rattle.reals.proofs.FloatOrder.{le_numbers, lt_le}
use Rattle.reals.proofs.Between.{limit_above, limit_below, finite_between, sub_number, div_number, zero_times}
use Rattle.refusals.specs.Refusals.{verdict_or_refused, judge}
use Rattle.moving_average.specs.Window.{drop_old}
use Rattle.moving_average.specs.Integral.{integral_at}
use Rattle.moving_average.specs.State.{held, start_time, mu_now, averaged_time, moving_average_new, moving_average_output, moving_average_is_full}
use Rattle.relief_fans.specs.Table.{ena_rel}
use Rattle.relief_fans.specs.Alarms.{fits_byte, alarms_fit}
use Rattle.relief_fans.specs.Flags.{all_of, any_of}
use Rattle.relief_fans.specs.Blocks.{threshold_outputs}
use Rattle.relief_fans.specs.Commands.{fan_speed}
use Rattle.relief_fan_group.specs.declared.types.ReliefRow.{ReliefRow}
use Rattle.relief_fan_group.specs.declared.types.ReliefBlocks.{ReliefBlocks}
use Rattle.relief_fan_group.specs.declared.types.ReliefState.{ReliefState}
use Rattle.relief_fan_group.specs.declared.types.ReliefSignals.{ReliefSignals}
use Rattle.relief_fan_group.specs.declared.types.ReliefCommands.{ReliefCommands}
use Rattle.relief_fan_group.specs.Constants.{pressure_setpoint, min_speed}
use Rattle.relief_fan_group.specs.Verdict.{numbers_finite, after_judged, relief_verdict}
use Rattle.relief_fan_group.specs.Signals.{pressure_loop, pressure_control, relief_signals}
use Rattle.relief_fan_group.specs.Commands.{relief_commands}
use Rattle.relief_fan_group.specs.Step.{relief_blocks, signals_at, step_by, relief_row}
use Rattle.relief_fan_group.specs.Alarms.{speeds_of}
use Rattle.relief_fan_group.proofs.SupplyOff.{zero_speeds, commands_answered}

-- ---- the loop of a mean that is a number
zero_to_one : T (le plus_zero one)
unfolding le of_bits
zero_to_one = tt

setpoint_positive : T (positive pressure_setpoint)
unfolding of_bits
setpoint_positive = tt

one_finite : T (finite one)
unfolding of_bits
one_finite = tt

-- the pressure loop of a mean that is a number is a number
pub loop_number : (average : Float) → is_nan average ≡ false → is_nan (pressure_loop average) ≡ false
unfolding pressure_loop
loop_number average n =
    let error = sub binary64 (div binary64 average pressure_setpoint) one in
    let number : is_nan error ≡ false = sub_number binary64 (div binary64 average pressure_setpoint) one (div_number binary64 average pressure_setpoint n setpoint_positive) one_finite in
    (le_numbers (limit error plus_zero one) one (limit_below error plus_zero one number zero_to_one)).0

-- ---- the gate
min_to_one : T (le min_speed one)
unfolding le of_bits
min_to_one = tt

min_above : T (lt plus_zero min_speed)
unfolding lt of_bits
min_above = tt

min_finite : T (finite min_speed)
unfolding of_bits
min_finite = tt

-- with both supply fans off the speed that the loop asks for is 0, where the loop is a number
speed_gated : (u : Float) → is_nan u ≡ false → mul binary64 plus_zero (limit u min_speed one) ≡ plus_zero
speed_gated u n =
    let x = limit u min_speed one in
    let above : T (le min_speed x) = limit_above u min_speed one n min_to_one in
    zero_times x (lt_le plus_zero min_speed x min_above above) (finite_between min_speed x one min_finite one_finite above (limit_below u min_speed one n min_to_one))

either_zero : (any : Bool) (x : Float) → x ≡ plus_zero → switch any x plus_zero ≡ plus_zero
unfolding switch
either_zero true x e = e
either_zero false x e = refl

-- at all blocks both supply fans off command speed 0 of all four fans, where the mean is a number
pub still_at_number : (blocks : ReliefBlocks) (row : ReliefRow) (average : Float) → row.supply ≡ false ∷ false ∷ [] → is_nan average ≡ false
    → speeds_of (relief_commands row (relief_signals blocks row average)) ≡ each4 (λ i. plus_zero)
still_at_number blocks row average e n =
    zero_speeds row (relief_signals blocks row average)
    (unfold relief_signals pressure_control bool_to_real in
    (rw e (either_zero (any_of (threshold_outputs blocks.gre_thr3 (ena_rel (false ∷ false ∷ [])))) _ (speed_gated (pressure_loop average) (loop_number average n)))))

-- the mean among the commands is the one that they are worked from
mean_told : (blocks : ReliefBlocks) (row : ReliefRow) (average : Float) → (relief_commands row (relief_signals blocks row average)).averaged_pressure ≡ average
unfolding relief_commands relief_signals pressure_control
mean_told blocks row average = refl

-- from every state: a row with both supply fans off commands speed 0 of all four fans, where the mean among its commands is a number
pub still_by_mean : (state : ReliefState) (row : ReliefRow) (c : ReliefCommands) → row.supply ≡ false ∷ false ∷ [] → (relief_row state row).answer ≡ Ok c
    → is_nan c.averaged_pressure ≡ false → speeds_of c ≡ each4 (λ i. plus_zero)
unfolding signals_at
still_by_mean state row c e a n =
    let same = commands_answered state row c a in
    ap speeds_of (sym same)
    ∙ still_at_number state.blocks row _ e (ap is_nan (sym (mean_told state.blocks row _)) ∙ ap (λ (d : ReliefCommands). is_nan d.averaged_pressure) same ∙ n)

-- ---- a mean that is a NaN, at a state that no start leads to
-- each enable threshold is -1, above which is 0, so that every fan is enabled with both supply fans off; and the integral of the pressure is +∞
abbrev pub forged : ReliefState
forged = record {
  window = record moving_average_new { mu = inf false };
  blocks = record relief_blocks { gre_thr3 = each4 (λ i. threshold_above minus_one plus_zero) };
}

-- a row at time 0 with both supply fans off, no pressure, no alarm, no fan proven
abbrev pub both_off : ReliefRow
both_off = record { time = plus_zero; supply = false ∷ false ∷ []; pressure = plus_zero; alarm = each4 (λ i. pos 0); proof = each4 (λ i. false) }

abbrev pub forged_commands : ReliefCommands
forged_commands = relief_commands both_off (signals_at forged both_off)

forged_taken : relief_verdict forged.blocks both_off (moving_average_is_full forged.window plus_zero) ≡ Ok tt
unfolding relief_verdict after_judged verdict_or_refused judge numbers_finite is_sign_negative seen_above alarms_fit all_of fits_byte relief_blocks moving_average_is_full moving_average_new held drop_old zip_with of_bits
forged_taken = refl

forged_mean : moving_average_output forged.window plus_zero plus_zero ≡ nan
unfolding moving_average_output moving_average_new held zip_with start_time mu_now integral_at averaged_time seen_elapsed add sub mul div neg le of_bits round
forged_mean = refl

forged_enabled : any_of (threshold_outputs forged.blocks.gre_thr3 (ena_rel both_off.supply)) ≡ true
unfolding any_of threshold_outputs threshold_above threshold_output crosses ena_rel bool_to_real switch lt mul add of_bits
forged_enabled = refl

loop_of_nan : mul binary64 plus_zero (limit (pressure_loop nan) min_speed one) ≡ nan
unfolding pressure_loop limit switch sub add div mul lt of_bits
loop_of_nan = refl

-- where the common speed is a NaN so is each fan's speed, commanded on or not
nan_base : (row : ReliefRow) (signals : ReliefSignals) → switch signals.control.any_enabled signals.control.gated_controller plus_zero ≡ nan
    → speeds_of (relief_commands row signals) ≡ each4 (λ i. nan)
unfolding relief_commands fan_speed
nan_base row signals e = rw e (unfold mul in refl)

-- this row is accepted, its mean is a NaN, and so is the speed of every fan
pub nan_speeds : ((relief_row forged both_off).answer ≡ Ok forged_commands) × (is_nan forged_commands.averaged_pressure ≡ true) × (speeds_of forged_commands ≡ each4 (λ i. nan))
unfolding relief_row signals_at
nan_speeds = (
  unfold step_by in (rw forged_taken refl),
  ap is_nan (mean_told forged.blocks both_off _ ∙ forged_mean) ∙ (unfold is_nan in refl),
  nan_base both_off (signals_at forged both_off) (unfold relief_signals pressure_control bool_to_real in (rw (forged_mean, forged_enabled, loop_of_nan) (unfold switch in refl))),
)
