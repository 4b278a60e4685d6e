-- What a state remembers of the alarms, over all lists. Assumes nothing.
use Rattle.std.specs.Prelude.{Ok, Err}
use Prim.Native.Nat.{ℕ, ◌≤◌, ◌<◌}
use native.Mathlib.Omega.{arith}
use mathlib.Core.Path.{◌≡◌, refl, ap}
use mathlib.Core.Bool.{Bool, true, false, cond}
use mathlib.Core.List.{List, [], ◌∷◌}
use lib.Dec.{T, ltb, nltb→le}
use Rattle.refusals.specs.Refusals.{Verdict}
use Rattle.past.specs.Whole.{next_by, accepted, state_after}
use Rattle.relief_fans.specs.Commands.{level}
use Rattle.relief_fans.specs.Flags.{all_of}
use Rattle.relief_fans.specs.Alarms.{fits_byte, alarms_fit}
use Rattle.relief_fans.proofs.AlarmBytes.{bytes_kept}
use Rattle.relief_fan_group.specs.declared.types.ReliefRow.{ReliefRow}
use Rattle.std.specs.Prelude.{None, Some}
use Rattle.relief_fan_group.specs.Step.{relief_blocks, relief_fresh, relief_next}
use Rattle.relief_fan_group.specs.Reading.{Past, verdict_of}
use Rattle.relief_fan_group.specs.Blocks.{blocks_of}
use Rattle.relief_fan_group.specs.Told.{relief_returned}
use Rattle.relief_fan_group.specs.Remembered.{relief_alarm, last_alarms, alarm_read}
use Rattle.relief_fan_group.proofs.Demand3.{accepted_fits, state_after_lem}

-- the alarms of the last accepted row fit their bytes
last_fits : (l : List ReliefRow) → T (alarms_fit (last_alarms (accepted verdict_of l)))
unfolding accepted last_alarms
last_fits [] = unfold alarms_fit all_of fits_byte in tt
last_fits (x ∷ l) = go (verdict_of (accepted verdict_of l) x) (accepted_fits x (accepted verdict_of l)) (last_fits l)
  where
    go : (v : Verdict) → (v ≡ Ok tt → T (alarms_fit x.alarm)) → T (alarms_fit (last_alarms (accepted verdict_of l)))
        → T (alarms_fit (last_alarms (next_by v (x ∷ accepted verdict_of l) (accepted verdict_of l))))
    go (Ok tt) f g = f refl
    go (Err r) f g = g

-- so each byte of the blocks after a past is that alarm
byte_is : (h : Past) (fan : ℕ) → fan < 4 → T (alarms_fit (last_alarms h)) → level (blocks_of h).alarms fan ≡ level (last_alarms h) fan
unfolding blocks_of last_alarms
byte_is [] fan l f = unfold relief_blocks in refl
byte_is (x ∷ h) fan l f = unfold relief_next in bytes_kept x.alarm fan l f

-- for every list of rows from a fresh start, refused ones included, and every fan index: the alarm read back is that of the last accepted row, 0 if there is
-- none; above 3 there is no fan
pub alarm_remembered : (l : List ReliefRow) (fan : ℕ) → relief_alarm (state_after relief_returned relief_fresh l).blocks fan ≡ alarm_read l fan
unfolding relief_alarm alarm_read
alarm_remembered l fan = rw (state_after_lem l) (go (ltb 3 fan) refl)
  where
    h : Past
    h = accepted verdict_of l

    go : (b : Bool) → ltb 3 fan ≡ b → cond b None (Some (level (blocks_of h).alarms fan)) ≡ cond b None (Some (level (last_alarms h) fan))
    go true e = refl
    go false e = ap Some (byte_is h fan (let l3 : fan ≤ 3 = nltb→le 3 fan (rw e tt) in omega (arith, l3)) (last_fits l))
