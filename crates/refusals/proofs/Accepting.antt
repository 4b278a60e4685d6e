-- A row is accepted where no refusal fits it. Assumes nothing.
use Rattle.std.specs.Prelude.{Ok, Err}
use Prim.Native.Nat.{ℕ}
use native.Mathlib.Omega.{arith}
use mathlib.Core.Path.{◌≡◌, refl}
use mathlib.Core.Bool.{Bool, true, false, not, cond}
use lib.Dec.{T}
use lib.Ieee.{Float}
use Rattle.reals.specs.Sign.{is_sign_negative}
use Rattle.refusals.specs.declared.Refusal.{Refusal}
use Rattle.refusals.specs.declared.Refusal.TheVariants.{NotFinite, NegativeTime, FallingTime}
use Rattle.refusals.specs.Refusals.{Verdict, judge_by, verdict_or_refused}

pub refused_is_not_accepted : (r : Refusal) → ◌≡◌ {A = Verdict} (Err r) (Ok tt) → ⊥
refused_is_not_accepted r e = let z : ◌≡◌ {A = ℕ} 0 1 = cc in omega arith

-- where none of the refusals 1 to 3 fits, what their tests were; and where the tests are so, none fits
pub judged : (finite : Bool) (t : Float) (falling : Bool) → judge_by finite t falling ≡ Ok tt → T finite × (is_sign_negative t ≡ false) × (falling ≡ false)
judged finite t falling e = go finite (is_sign_negative t) falling e
  where
    go : (a b c : Bool) → ◌≡◌ {A = Verdict} (cond (not a) (Err NotFinite) (cond b (Err NegativeTime) (cond c (Err FallingTime) (Ok tt)))) (Ok tt) → T a × (b ≡ false) × (c ≡ false)
    go true false false e = (tt, refl, refl)
    go true false true e = absurd (refused_is_not_accepted FallingTime e)
    go true true c e = absurd (refused_is_not_accepted NegativeTime e)
    go false b c e = absurd (refused_is_not_accepted NotFinite e)

pub judge_accepts : (finite : Bool) (t : Float) (falling : Bool) → T finite → is_sign_negative t ≡ false → falling ≡ false → judge_by finite t falling ≡ Ok tt
judge_accepts true t falling f a b = rw (a, b) refl
judge_accepts false t falling f a b = absurd f

-- where a row is accepted with one refusal more, it is accepted without it, and that one does not fit
pub neither_fits : (v : Verdict) (fits : Bool) (r : Refusal) → verdict_or_refused v fits r ≡ Ok tt → (v ≡ Ok tt) × (fits ≡ false)
unfolding verdict_or_refused
neither_fits (Ok tt) false r e = (refl, refl)
neither_fits (Ok tt) true r e = absurd (refused_is_not_accepted r e)
neither_fits (Err first) fits r e = absurd (refused_is_not_accepted first e)

-- a refusal that does not fit changes no verdict
pub no_more : (v : Verdict) (r : Refusal) → verdict_or_refused v false r ≡ v
unfolding verdict_or_refused
no_more (Ok tt) r = refl
no_more (Err first) r = refl
