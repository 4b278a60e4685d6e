-- When the economizer sees a freeze stage. Assumes nothing.
use Rattle.std.specs.Prelude.{Ok, Err, Some}
use Prim.Native.Nat.{ℕ, ◌≤◌}
use native.Mathlib.Omega.{arith}
use mathlib.Core.Path.{◌≡◌, refl, sym, ◌∙◌}
use mathlib.Core.Bool.{Bool, true, false, ◌&&◌, ◌||◌}
use mathlib.Core.List.{List, [], ◌∷◌, map}
use lib.Dec.{eqb, eqb→eq}
use lib.IntN.{pos}
use lib.Ieee.{Float, add, sub, lt, le, eq, round, of_bits}
use Rattle.reals.specs.Sign.{is_sign_negative}
use Rattle.reals.specs.Seen.{seen_above}
use Rattle.reals.proofs.Truth.{is_false}
use Rattle.refusals.specs.Refusals.{Verdict, judge, verdict_or_refused}
use Rattle.logical.specs.Run.{run}
use Rattle.past.specs.Acceptance.{verdict_after}
use Rattle.past.specs.Past.{some, every, since_with, since, rises, risen, latched}
use Rattle.past.specs.Runs.{passed, lapses, gaps}
use Rattle.past.specs.Turns.{values, turns, changes, hold_here, hold}
use Rattle.past.specs.Whole.{Taken, told_by, state_after, accepted, read_all}
use Rattle.past.proofs.Whole.{accepted_all}
use Rattle.economizer_controller.specs.Integers.{integers_equal}
use Rattle.economizer_controller.specs.Reading as economizer
use Rattle.freeze_protection.specs.declared.types.FreezeRow.{FreezeRow}
use Rattle.freeze_protection.specs.Constants.{cold_stage1, cold_stage2, cold_stage3, five_minutes, fifteen_minutes, hour}
use Rattle.freeze_protection.specs.Signals.{stage_number}
use Rattle.freeze_protection.specs.Reading as freeze
use Rattle.freeze_protection.specs.Reading.{passed_for, end_of_hour_kept, end_of_hour_from, cold, warm, holding, recovery, stage3_call, end_of_hour, stage1_call_by, stage_by, stage_from}
use Rattle.moving_average.specs.Past.{from, different_before, different, window_is_full}
use Rattle.relief_fans.specs.Alarms.{fits_byte, alarms_fit}
use Rattle.relief_fans.specs.Flags.{all_of}
use Rattle.relief_fan_group.specs.Verdict.{after_judged}
use Rattle.rooftop.specs.declared.types.RooftopRow.{RooftopRow}
use Rattle.rooftop.specs.declared.types.RooftopState.{RooftopState}
use Rattle.rooftop.specs.Wiring.{economizer_row_of, freeze_row_of}
use Rattle.rooftop.specs.Verdict.{numbers_finite}
use Rattle.rooftop.specs.Step.{rooftop_start, economizer_handed, economizer_at}
use Rattle.rooftop.specs.Reading.{Past, verdict_of, RooftopReading, freeze_fields, stage_of, economizer_rows, rooftop_reading}
use Rattle.rooftop.specs.Told.{rooftop_told, rooftop_returned}
use Rattle.rooftop.specs.StageSeen.{with_supply_air, three_cold_rows, stage_and_enable}
use Rattle.rooftop.proofs.OwnFields.{own_stage}
use Rattle.rooftop.proofs.Demand3.{rooftop_demand_3_from, side_by_side, told_reads}

-- from any state: what the economizer commands and keeps does not hang on the row's own supply air temperature, nor on its reset
pub unseen_on_the_row : (state : RooftopState) (row : RooftopRow) (temperature : Float) (reset : Bool)
    → economizer_at state (with_supply_air row temperature reset) ≡ economizer_at state row
unfolding economizer_row_of
unseen_on_the_row state row temperature reset = refl

module _ (k : Bool) where
  -- the economizer is handed the stage of the row before: over all lists of joined rows, refused ones too
  pub stage_handed : (x : RooftopRow) (l : List RooftopRow)
      → economizer_handed (state_after rooftop_returned (rooftop_start k) l) x ≡ economizer_row_of x (pos (rooftop_reading k (accepted verdict_of l)).stage)
  unfolding rooftop_reading
  stage_handed x l = rw (side_by_side k l, own_stage k (accepted verdict_of l) (accepted_all verdict_of l)) refl

  -- on a row after one with a stage it is not enabled
  disabled : (x : RooftopRow) (h : Past) → 1 ≤ (rooftop_reading k h).stage → (rooftop_reading k (x ∷ h)).economizer.enabled ≡ false
  unfolding rooftop_reading economizer.economizer_reading economizer.is_enabled economizer_row_of integers_equal
  disabled x h l = never (economizer.held (economizer_rows k (x ∷ h)) && x.supply_fan_status) (stage_of k h) l
    where
      never : (b : Bool) (stage : ℕ) → 1 ≤ stage → (b && eqb stage 0) ≡ false
      never true stage l = is_false (eqb stage 0) (λ t. let zero : stage ≡ 0 = eqb→eq stage 0 t in omega (arith, l, zero))
      never false stage l = refl

  -- so it is of the answers: over all lists of rows, refused ones included, where the last accepted row of them has a stage
  pub disabled_after_stage : (x : RooftopRow) (l : List RooftopRow) → 1 ≤ (rooftop_reading k (accepted verdict_of l)).stage
      → (y : RooftopReading) → rooftop_told (state_after rooftop_returned (rooftop_start k) l) x ≡ Taken y → y.economizer.enabled ≡ false
  disabled_after_stage x l s y e = go (verdict_of h x) (sym (told_reads k x l) ∙ e)
    where
      h : Past
      h = accepted verdict_of l

      go : (v : Verdict) → told_by v (rooftop_reading k (x ∷ h)) ≡ Taken y → y.economizer.enabled ≡ false
      go (Ok v) e = let same : rooftop_reading k (x ∷ h) ≡ y = cc in rw (← same) (disabled x h s)
      go (Err r) e = absurd (let z : ◌≡◌ {A = ℕ} 0 1 = cc in omega arith)

-- ---- no shorter list shows it: on row 0 the stage is 0, so on neither of two rows is the economizer handed another. No timer has passed there, so nothing calls
module _ (x : FreezeRow) where
  abbrev row_0 : freeze.Past
  row_0 = x ∷ []

  not_passed : (n : Float) (u : freeze.Past → Bool) → passed freeze.time_of_row n u row_0 ≡ false
  unfolding passed since_with some every
  not_passed n u = go (rises u row_0)
    where
      go : (b : Bool) → (b && true && false || false) ≡ false
      go true = refl
      go false = refl

  not_rising : (u : freeze.Past → Bool) → u row_0 ≡ false → rises u row_0 ≡ false
  unfolding rises
  not_rising u e = rw e refl

  not_latched : (u clear : freeze.Past → Bool) → u row_0 ≡ false → latched u clear row_0 ≡ false
  unfolding latched since since_with some
  not_latched u clear e = rw (not_rising u e) refl

  not_calling : stage3_call row_0 ≡ false
  unfolding stage3_call
  not_calling = rw (not_passed fifteen_minutes (cold cold_stage2), not_passed five_minutes (cold cold_stage3)) refl

  not_holding : holding row_0 ≡ false
  unfolding holding hold values hold_here
  not_holding = not_passed five_minutes (cold cold_stage2)

  not_over : (k : Bool) → end_of_hour_from k row_0 ≡ false
  unfolding end_of_hour end_of_hour_kept lapses risen some
  not_over true = rw (not_rising holding not_holding) refl
  not_over false = not_rising (passed_for hour holding) (not_passed hour holding)

  not_called : (k : Bool) → stage1_call_by (end_of_hour_from k) row_0 ≡ false
  unfolding stage1_call_by
  not_called k = rw (not_passed five_minutes (cold cold_stage1), not_over k) refl

  no_stage : (k : Bool) → stage_from k row_0 ≡ 0
  unfolding stage_by
  no_stage k =
      rw (
        not_latched stage3_call freeze.reset_row not_calling,
        not_latched holding (end_of_hour_from k) not_holding,
        not_latched (stage1_call_by (end_of_hour_from k)) recovery (not_called k),
      )
      refl

pub no_stage_on_row_0 : (k : Bool) (x : RooftopRow) → (rooftop_reading k (x ∷ [])).stage ≡ 0
unfolding rooftop_reading
no_stage_on_row_0 k x = no_stage (freeze_fields x) k

three_read : map stage_and_enable (read_all verdict_of (rooftop_reading false) [] three_cold_rows) ≡ Some (0, true) ∷ Some (1, true) ∷ Some (1, false) ∷ []
unfolding read_all accepted verdict_of verdict_after after_judged verdict_or_refused alarms_fit all_of fits_byte judge numbers_finite seen_above is_sign_negative window_is_full from different_before different eq
    rooftop_reading economizer_row_of freeze_row_of economizer.economizer_reading economizer.is_enabled economizer.held economizer.warm_outside integers_equal
    stage_by stage_number stage1_call_by recovery holding end_of_hour stage3_call cold warm hold values hold_here changes gaps turns passed latched rises since since_with some every lt le add sub round of_bits
three_read = refl

-- three rows show it
pub three_rows : map stage_and_enable (run rooftop_told rooftop_returned (rooftop_start false) three_cold_rows) ≡ Some (0, true) ∷ Some (1, true) ∷ Some (1, false) ∷ []
three_rows = rw (rooftop_demand_3_from false three_cold_rows) three_read
