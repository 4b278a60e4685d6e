-- Stages 3 and 2 of the joined sequence. Assumes nothing.
use Rattle.std.specs.Prelude.{Ok, Err}
use Prim.Native.Nat.{ℕ}
use native.Mathlib.Omega.{arith}
use mathlib.Core.Path.{◌≡◌, refl, ap, ◌∙◌}
use mathlib.Core.Bool.{Bool, false}
use mathlib.Core.List.{List, [], ◌∷◌}
use lib.Ieee.{is_nan}
use Rattle.reals.specs.Constants.{plus_zero}
use Rattle.reals.specs.Four.{each4}
use Rattle.refusals.specs.Refusals.{Verdict}
use Rattle.refusals.specs.Step.{stepped}
use Rattle.past.specs.Whole.{state_after, accepted}
use Rattle.freeze_protection.specs.Stages.{StageThree, StageTwo}
use Rattle.freeze_protection.proofs.Stages.{stage_3, stage_2}
use Rattle.relief_fan_group.specs.Alarms.{speeds_of}
use Rattle.relief_fan_group.specs.Step.{relief_row}
use Rattle.relief_fan_group.proofs.SupplyOff.{still_from_fresh}
use Rattle.relief_fan_group.proofs.SupplyOffMean.{still_by_mean}
use Rattle.rooftop.specs.declared.types.RooftopRow.{RooftopRow}
use Rattle.rooftop.specs.declared.types.RooftopState.{RooftopState}
use Rattle.rooftop.specs.declared.types.RooftopCommands.{RooftopCommands}
use Rattle.rooftop.specs.Wiring.{relief_row_of}
use Rattle.rooftop.specs.Step.{rooftop_start, freeze_accepted, freeze_handed, relief_handed, freeze_at, relief_at, rooftop_commands, rooftop_next, rooftop_row, verdict_at}
use Rattle.rooftop.specs.Reading.{verdict_of}
use Rattle.rooftop.specs.SideBySide.{wired, state_alone}
use Rattle.rooftop.specs.Told.{rooftop_returned}
use Rattle.rooftop.specs.Stages.{RooftopStageThree, RooftopStageTwo}
use Rattle.rooftop.proofs.OwnEntries.{own_relief}
use Rattle.rooftop.proofs.Demand3.{side_by_side}

module _ (state : RooftopState) (row : RooftopRow) where
  -- what an accepted row answers
  answered : (c : RooftopCommands) → (rooftop_row state row).answer ≡ Ok c → (verdict_at state row ≡ Ok tt) × (rooftop_commands state row ≡ c)
  unfolding rooftop_row
  answered c e = go (verdict_at state row) refl e
    where
      go : (v : Verdict) → verdict_at state row ≡ v → (stepped v (rooftop_commands state row) (rooftop_next state row) state).answer ≡ Ok c
          → (verdict_at state row ≡ Ok tt) × (rooftop_commands state row ≡ c)
      go (Ok v) f e = (f, let same : rooftop_commands state row ≡ c = cc in same)
      go (Err r) f e = absurd (let z : ◌≡◌ {A = ℕ} 0 1 = cc in omega arith)

  freeze_3 : (freeze_at state row).0.freeze_protection_stage ≡ 3 → StageThree (freeze_at state row).0
  unfolding freeze_accepted
  freeze_3 e = stage_3 state.freeze (freeze_handed state row) e

  freeze_2 : (freeze_at state row).0.freeze_protection_stage ≡ 2 → StageTwo (freeze_at state row).0
  unfolding freeze_accepted
  freeze_2 e = stage_2 state.freeze (freeze_handed state row) e

  -- the answer of the relief fan group's own entry to the row that it is handed
  relief_answers : verdict_at state row ≡ Ok tt → (relief_row state.relief (relief_handed state row)).answer ≡ Ok (relief_at state row).0
  relief_answers ok = ap (λ s. s.answer) (own_relief state row ok)

  supply_off : (freeze_at state row).0.supply_fan_status ≡ false → (relief_handed state row).supply ≡ false ∷ false ∷ []
  unfolding relief_row_of
  supply_off e = rw e refl

  -- stage 3, where the speeds are known to be 0
  three : (c : RooftopCommands) → (rooftop_row state row).answer ≡ Ok c → c.freeze.freeze_protection_stage ≡ 3
      → (verdict_at state row ≡ Ok tt → (relief_handed state row).supply ≡ false ∷ false ∷ [] → speeds_of (relief_at state row).0 ≡ each4 (λ i. plus_zero)) → RooftopStageThree c
  three c a e still =
      let told = answered c a in
      let t = freeze_3 (ap (λ (c : RooftopCommands). c.freeze.freeze_protection_stage) told.1 ∙ e) in
      rw (← told.1) (record { outdoor_damper = t.outdoor_damper; return_damper = t.return_damper; fan_speeds = still told.0 (supply_off t.fan_off) })

  -- from any state stage 3 shuts both of freeze protection's dampers and stops every relief fan, where the pressure mean is a number
  pub stage_3_any : (c : RooftopCommands) → (rooftop_row state row).answer ≡ Ok c → c.freeze.freeze_protection_stage ≡ 3
      → is_nan c.relief.averaged_pressure ≡ false → RooftopStageThree c
  stage_3_any c a e n =
      three c a e
      (λ ok off. still_by_mean state.relief (relief_handed state row) (relief_at state row).0 off (relief_answers ok)
      (ap (λ (c : RooftopCommands). is_nan c.relief.averaged_pressure) (answered c a).1 ∙ n))

  -- and stage 2 shuts its outdoor damper and opens its return damper full
  pub stage_2_any : (c : RooftopCommands) → (rooftop_row state row).answer ≡ Ok c → c.freeze.freeze_protection_stage ≡ 2 → RooftopStageTwo c
  stage_2_any c a e =
      let told = answered c a in
      let t = freeze_2 (ap (λ (c : RooftopCommands). c.freeze.freeze_protection_stage) told.1 ∙ e) in
      rw (← told.1) (record { outdoor_damper = t.outdoor_damper; return_damper = t.return_damper })

-- in every run from either start, refused rows included, whatever the pressure mean is: a NaN too
module _ (k : Bool) (l : List RooftopRow) (row : RooftopRow) (c : RooftopCommands) (a : (rooftop_row (state_after rooftop_returned (rooftop_start k) l) row).answer ≡ Ok c) where
  pub rooftop_stage_3 : c.freeze.freeze_protection_stage ≡ 3 → RooftopStageThree c
  rooftop_stage_3 e =
      let s = state_alone k (wired k (accepted verdict_of l)) in
      three s row c (rw (side_by_side k l) at a) e
      (λ ok off. still_from_fresh (wired k (accepted verdict_of l)).relief (relief_handed s row) (relief_at s row).0 off (relief_answers s row ok))

  pub rooftop_stage_2 : c.freeze.freeze_protection_stage ≡ 2 → RooftopStageTwo c
  rooftop_stage_2 e = stage_2_any (state_after rooftop_returned (rooftop_start k) l) row c a e
