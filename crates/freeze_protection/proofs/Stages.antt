-- What each stage commands, for every state and row. Assumes nothing.
use Prim.Native.Nat.{ℕ, ◌≤◌}
use native.Mathlib.Omega.{arith}
use mathlib.Core.Path.{◌≡◌, refl, ap}
use mathlib.Core.Bool.{Bool, true, false, not, ◌&&◌, ◌||◌, cond}
use lib.Dec.{eqb}
use Rattle.reals.specs.Switch.{switch}
use Rattle.freeze_protection.specs.declared.types.FreezeRow.{FreezeRow}
use Rattle.freeze_protection.specs.declared.types.FreezeState.{FreezeState}
use Rattle.freeze_protection.specs.declared.types.FreezeSignals.{FreezeSignals}
use Rattle.freeze_protection.specs.Signals.{stage_number, freeze_signals}
use Rattle.freeze_protection.specs.Commands.{freeze_commands}
use Rattle.freeze_protection.specs.Stages.{StageThree, StageTwo}

-- the latches behind a stage number
three_is : (a b c : Bool) → stage_number a b c ≡ 3 → a ≡ true
unfolding stage_number
three_is true b c e = refl
three_is false true c e = absurd (omega arith)
three_is false false true e = absurd (omega arith)
three_is false false false e = absurd (omega arith)

pub two_is : (a b c : Bool) → stage_number a b c ≡ 2 → (a ≡ false) × (b ≡ true)
unfolding stage_number
two_is true b c e = absurd (omega arith)
two_is false true c e = (refl, refl)
two_is false false true e = absurd (omega arith)
two_is false false false e = absurd (omega arith)

-- a stage is at most 3
number_at_most_3 : (a b c : Bool) → stage_number a b c ≤ 3
unfolding stage_number
number_at_most_3 true b c = omega arith
number_at_most_3 false true c = omega arith
number_at_most_3 false false true = omega arith
number_at_most_3 false false false = omega arith

pub stage_at_most_3 : (state : FreezeState) (row : FreezeRow) → (freeze_signals state row).stage ≤ 3
unfolding freeze_signals
stage_at_most_3 state row = number_at_most_3 _ _ _

-- the number is 3 exactly where the stage 3 latch is on
pub three_exactly : (a b c : Bool) → a ≡ eqb (cond a 3 (cond b 2 (cond c 1 0))) 3
three_exactly true b c = refl
three_exactly false true c = refl
three_exactly false false true = refl
three_exactly false false false = refl

and_off : (b : Bool) → (b && false) ≡ false
and_off true = refl
and_off false = refl

module _ (row : FreezeRow) (signals : FreezeSignals) where
  three_commands : signals.lat1_y ≡ true → StageThree (freeze_commands row signals)
  unfolding freeze_commands switch
  three_commands e = record {
    fan_off = rw e (and_off row.supply_fan_status);
    fan_speed = rw e refl;
    return_damper = rw e refl;
    outdoor_damper = rw e refl;
    minimum_outdoor_damper = rw e refl;
    cooling_coil = rw e refl;
    alarm = rw e refl;
    pump_on = e;
  }

  two_commands : signals.lat1_y ≡ false → signals.lat2_y ≡ true → StageTwo (freeze_commands row signals)
  unfolding freeze_commands switch
  two_commands e f = record { outdoor_damper = rw (e, f) refl; minimum_outdoor_damper = rw (e, f) refl; return_damper = rw (e, f) refl; alarm = rw (e, f) refl }

  -- the hot water request is 2 while the stage 1 or the stage 3 latch is on, else 0
  pub hot_water : (freeze_commands row signals).hot_water_plant_request ≡ cond (signals.lat_y || signals.lat1_y) 2 0
  unfolding freeze_commands switch
  hot_water = go signals.lat_y signals.lat1_y
    where
      go : (a b : Bool) → ◌≡◌ {A = ℕ} (cond b 2 (cond a 2 0)) (cond (a || b) 2 0)
      go true true = refl
      go true false = refl
      go false true = refl
      go false false = refl

-- of every row whose commands say stage 3, and stage 2
module _ (state : FreezeState) (row : FreezeRow) where
  latch_3 : (freeze_commands row (freeze_signals state row)).freeze_protection_stage ≡ 3 → (freeze_signals state row).lat1_y ≡ true
  unfolding freeze_commands freeze_signals
  latch_3 e = three_is _ _ _ e

  latch_2 : (freeze_commands row (freeze_signals state row)).freeze_protection_stage ≡ 2 → ((freeze_signals state row).lat1_y ≡ false) × ((freeze_signals state row).lat2_y ≡ true)
  unfolding freeze_commands freeze_signals
  latch_2 e = two_is _ _ _ e

  pub stage_3 : (freeze_commands row (freeze_signals state row)).freeze_protection_stage ≡ 3 → StageThree (freeze_commands row (freeze_signals state row))
  stage_3 e = three_commands row (freeze_signals state row) (latch_3 e)

  -- the fan that is commanded: the row's own, but at stage 3
  pub fan_by_stage : (freeze_commands row (freeze_signals state row)).supply_fan_status
      ≡ row.supply_fan_status && not (eqb (freeze_commands row (freeze_signals state row)).freeze_protection_stage 3)
  unfolding freeze_commands freeze_signals stage_number
  fan_by_stage = ap (λ b. row.supply_fan_status && not b) (three_exactly _ _ _)

  pub stage_2 : (freeze_commands row (freeze_signals state row)).freeze_protection_stage ≡ 2 → StageTwo (freeze_commands row (freeze_signals state row))
  stage_2 e = two_commands row (freeze_signals state row) (latch_2 e).0 (latch_2 e).1
