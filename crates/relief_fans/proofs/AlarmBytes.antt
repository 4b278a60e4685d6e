-- An alarm that a signed byte holds is kept as it came. Assumes nothing.
use Prim.Native.Nat.{ℕ, zero, suc, ◌<◌}
use native.Mathlib.Omega.{arith}
use mathlib.Core.Path.{◌≡◌, refl, sym, ◌∙◌}
use mathlib.Core.Bool.{Bool, true, false, not, cond, ◌&&◌}
use mathlib.Core.List.{List}
use lib.Dec.{T, ltb, nltb→le}
use lib.IntN.{ℤ, pos, negsuc}
use lib.Ieee.Fits.{and_l, and_r}
use Rattle.std.specs.Result.{OkIff, is_ok, result_unwrap_or}
use Rattle.std.specs.declared.result.Result.{Result}
use Rattle.std.specs.declared.result.Result.TheVariants.{Ok, Err}
use borrow.Author.Tests.{le-ltb}
use mir.Syntax.{w8, w64}
use mir.Val.{SFits}
use Rattle.reals.specs.Four.{flag, each4}
use Rattle.reals.proofs.Four.{at_each}
use Rattle.reals.proofs.Truth.{is_true}
use Rattle.relief_fans.specs.Commands.{level}
use Rattle.relief_fans.specs.Flags.{all_of}
use Rattle.relief_fans.specs.Alarms.{fits_byte, fits_at, alarms_fit, alarm_byte, byte_at, alarm_bytes}

-- a number from −128 to 127 fits eight bits with a sign
pub in_range : (alarm : ℤ) → T (fits_byte alarm) → SFits w8 alarm
unfolding fits_byte
in_range (pos n) f = let h = nltb→le 127 n f in record { sfits = omega (arith, h) }
in_range (negsuc k) f = let h = nltb→le 127 k (and_l (not (ltb 127 k)) true f) in record { sfits = omega (arith, h) }

-- and 64 bits
pub wider : {z : ℤ} → SFits w8 z → SFits w64 z
wider f = let h = f.sfits in record { sfits = omega (arith, h) }

-- and no other does
fits : (alarm : ℤ) → SFits w8 alarm → T (fits_byte alarm)
unfolding fits_byte
fits (pos n) f = let h = f.sfits in rw (le-ltb 127 n (omega (arith, h))) tt
fits (negsuc k) f = let h = f.sfits in rw (le-ltb 127 k (omega (arith, h))) tt

-- so a conversion takes the alarms that fit, and 0 is kept where it takes none
refused : (b : Bool) → (T b → ⊥) → b ≡ false
refused true n = absurd (n tt)
refused false n = refl

module _ {E : Type 0} (alarm : ℤ) where
  pub taken : (r : Result ℤ E) → OkIff r (SFits w8 alarm) alarm → is_ok r ≡ fits_byte alarm
  taken (Ok x) (f, e) = sym (is_true (fits_byte alarm) (fits alarm f))
  taken (Err x) n = sym (refused (fits_byte alarm) (λ f. n (in_range alarm f)))

  pub kept : (r : Result ℤ E) → OkIff r (SFits w8 alarm) alarm → result_unwrap_or r (pos 0) ≡ alarm_byte alarm
  unfolding alarm_byte
  kept (Ok x) (f, e) = rw (is_true (fits_byte alarm) (fits alarm f)) e
  kept (Err x) n = rw (refused (fits_byte alarm) (λ f. n (in_range alarm f))) refl

-- so whatever is kept is in that range
pub byte_in_range : (alarm : ℤ) → SFits w8 (alarm_byte alarm)
unfolding alarm_byte
byte_in_range alarm = go (fits_byte alarm) (in_range alarm)
  where
    go : (b : Bool) → (T b → SFits w8 alarm) → SFits w8 (cond b alarm (pos 0))
    go true f = f tt
    go false f = record { sfits = omega arith }

pub byte_kept : (alarm : ℤ) → T (fits_byte alarm) → alarm_byte alarm ≡ alarm
unfolding alarm_byte
byte_kept alarm f = rw (is_true (fits_byte alarm) f) refl

-- what holds of all four fans holds of each
all_at : (a : List Bool) (i : ℕ) → i < 4 → T (all_of a) → T (flag a i)
unfolding all_of
all_at a i l t = go i l
  where
    three : T (flag a 0 && flag a 1 && flag a 2)
    three = and_l (flag a 0 && flag a 1 && flag a 2) (flag a 3) t

    two : T (flag a 0 && flag a 1)
    two = and_l (flag a 0 && flag a 1) (flag a 2) three

    go : (i : ℕ) → i < 4 → T (flag a i)
    go zero l = and_l (flag a 0) (flag a 1) two
    go (suc zero) l = and_r (flag a 0) (flag a 1) two
    go (suc (suc zero)) l = and_r (flag a 0 && flag a 1) (flag a 2) three
    go (suc (suc (suc zero))) l = and_r (flag a 0 && flag a 1 && flag a 2) (flag a 3) t
    go (suc (suc (suc (suc i)))) l = absurd (omega arith)

-- where all four fit, each byte, read by its fan's index, is the number that came in
pub bytes_kept : (alarm : List ℤ) (i : ℕ) → i < 4 → T (alarms_fit alarm) → level (alarm_bytes alarm) i ≡ level alarm i
unfolding alarms_fit alarm_bytes
bytes_kept alarm i l f = at_each (byte_at alarm) (pos 0) i l ∙ byte_kept (level alarm i) (rw (at_each (fits_at alarm) false i l) at (all_at (each4 (fits_at alarm)) i l f))
