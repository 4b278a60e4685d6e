-- A threshold (CDL.Reals.GreaterThreshold, LessThreshold), or a delay (CDL.Logical.TrueDelay with delayOnInit=true), for each of the four fans.
use Rattle.std.specs.Prelude.{ℕ, Bool, false, List, get_or, Float, None}
use Rattle.std.specs.Float.{nan}
use Rattle.reals.specs.Four.{real, flag, each4}
use Rattle.reals.specs.declared.threshold.ThresholdMode.TheVariants.{Greater}
use Rattle.reals.specs.declared.threshold.ThresholdState.{ThresholdState}
use Rattle.reals.specs.Threshold.{threshold_output, threshold_update}
use Rattle.logical.specs.declared.true_delay_on_init.TrueDelayOnInitState.{TrueDelayOnInitState}
use Rattle.logical.specs.TrueDelayOnInit.{true_delay_on_init_output, true_delay_on_init_update}

-- the block at an index; past the end, which no fan's index is, an empty one
abbrev pub threshold_at : List ThresholdState → ℕ → ThresholdState
threshold_at blocks i = get_or blocks i (record { threshold = nan; hysteresis = nan; previous = false; mode = Greater })

abbrev pub delay_at : List TrueDelayOnInitState → ℕ → TrueDelayOnInitState
delay_at blocks i = get_or blocks i (record { delay_time = nan; entry_time = None; previous_u = false })

-- each fan's block with that fan's input
abbrev pub threshold_output_at : List ThresholdState → List Float → ℕ → Bool
threshold_output_at blocks u i = threshold_output (threshold_at blocks i) (real u i)

unfoldable pub threshold_outputs : List ThresholdState → List Float → List Bool
threshold_outputs blocks u = each4 (threshold_output_at blocks u)

abbrev pub threshold_update_at : List ThresholdState → List Float → ℕ → ThresholdState
threshold_update_at blocks u i = threshold_update (threshold_at blocks i) (real u i)

unfoldable pub threshold_updates : List ThresholdState → List Float → List ThresholdState
threshold_updates blocks u = each4 (threshold_update_at blocks u)

abbrev pub delay_output_at : List TrueDelayOnInitState → Float → List Bool → ℕ → Bool
delay_output_at blocks t u i = true_delay_on_init_output (delay_at blocks i) t (flag u i)

unfoldable pub delay_outputs : List TrueDelayOnInitState → Float → List Bool → List Bool
delay_outputs blocks t u = each4 (delay_output_at blocks t u)

abbrev pub delay_update_at : List TrueDelayOnInitState → Float → List Bool → ℕ → TrueDelayOnInitState
delay_update_at blocks t u i = true_delay_on_init_update (delay_at blocks i) t (flag u i)

unfoldable pub delay_updates : List TrueDelayOnInitState → Float → List Bool → List TrueDelayOnInitState
delay_updates blocks t u = each4 (delay_update_at blocks t u)
