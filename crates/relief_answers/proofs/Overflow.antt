-- Sums that are not finite: an infinite one stays infinite with its sign or becomes a NaN, and two such of one sign differ by a NaN. Assumes nothing.
use mathlib.Core.Path.{◌≡◌, refl}
use mathlib.Core.Bool.{Bool, true, false, not, beq, cond, true≢false}
use lib.Dec.{T, eqb}
use Prim.Native.Nat.{◌*◌}
use lib.Ieee.{Float, nan, inf, fin, binary64, up, down, add, sub, mul, div, neg, lt, le, round, unlike}
use lib.Ieee.Scale.{finite}
use Rattle.reals.specs.Sign.{is_time, is_sign_negative}
use Rattle.reals.proofs.Round.{plain, round_plain}
use Rattle.reals.proofs.Times.{gap_plain}
use Rattle.reals.proofs.FloatOrder.{lt→le}
use Rattle.reals.proofs.Truth.{holds}
use Rattle.relief_answers.proofs.Flags.{beq_self}

-- a NaN, or the infinity of sign s
abbrev pub over : Bool → Float → Bool
over s nan = true
over s (inf t) = beq t s
over s (fin t m e) = false

-- the sign of an infinity; a number that is not finite is over with its sign
abbrev pub sign_of : Float → Bool
sign_of nan = false
sign_of (inf t) = t
sign_of (fin t m e) = false

pub is_over : (x : Float) → finite x ≡ false → T (over (sign_of x) x)
is_over nan e = tt
is_over (inf t) e = holds (beq t t) (beq_self t)
is_over (fin t m d) e = absurd (true≢false e)

-- a sum is over where either of its terms is
pub over_add : (s : Bool) (x y : Float) → T (over s x) → T (over s (add binary64 x y))
unfolding add
over_add s nan y h = tt
over_add s (inf t) nan h = tt
over_add s (inf t) (inf r) h = go (beq t r)
  where
    go : (b : Bool) → T (over s (cond b (inf t) nan))
    go true = h
    go false = tt
over_add s (inf t) (fin r n d) h = h
over_add s (fin t m e) y h = absurd h

pub over_add_right : (s : Bool) (x y : Float) → T (over s y) → T (over s (add binary64 x y))
unfolding add
over_add_right s nan y h = tt
over_add_right s (inf t) nan h = tt
over_add_right s (inf t) (inf r) h = go t r s h
  where
    go : (t r s : Bool) → T (beq r s) → T (over s (cond (beq t r) (inf t) nan))
    go true true s h = h
    go true false s h = tt
    go false true s h = tt
    go false false s h = h
over_add_right s (inf t) (fin r n d) h = absurd h
over_add_right s (fin t m e) nan h = tt
over_add_right s (fin t m e) (inf r) h = h
over_add_right s (fin t m e) (fin r n d) h = absurd h

-- the difference of two that are over is no number
pub over_sub : (s : Bool) (x y : Float) → T (over s x) → T (over s y) → sub binary64 x y ≡ nan
unfolding sub add neg
over_sub s nan y h k = refl
over_sub s (inf t) nan h k = refl
over_sub s (inf t) (inf r) h k = go t r s h k
  where
    go : (t r s : Bool) → T (beq t s) → T (beq r s) → cond (beq t (not r)) (inf t) nan ≡ nan
    go true true s h k = refl
    go true false true h k = absurd k
    go true false false h k = absurd h
    go false true true h k = absurd h
    go false true false h k = absurd k
    go false false s h k = refl
over_sub s (inf t) (fin r n d) h k = absurd k
over_sub s (fin t m e) y h k = absurd h

-- no sign is set: a NaN, or a number that is not negative
abbrev pub clearish : Float → Bool
clearish nan = true
clearish (inf s) = not s
clearish (fin s m e) = not s

unlike_clear : (t r s : Bool) → T (not r) → T (beq t s) → T (beq (unlike t r) s)
unlike_clear true true s h k = absurd h
unlike_clear true false s h k = k
unlike_clear false true s h k = absurd h
unlike_clear false false s h k = k

-- times a number whose sign is clear
pub over_mul : (s : Bool) (x y : Float) → T (over s x) → T (clearish y) → T (over s (mul binary64 x y))
unfolding mul
over_mul s nan y h k = tt
over_mul s (inf t) nan h k = tt
over_mul s (inf t) (inf r) h k = unlike_clear t r s k h
over_mul s (inf t) (fin r n d) h k = go (eqb n 0)
  where
    go : (b : Bool) → T (over s (cond b nan (inf (unlike t r))))
    go true = tt
    go false = unlike_clear t r s k h
over_mul s (fin t m e) y h k = absurd h

plain_clearish : (x : Float) → T (plain x) → T (clearish x)
plain_clearish nan h = absurd h
plain_clearish (inf s) h = h
plain_clearish (fin s m e) h = h

-- a quotient of two such
pub clear_div : (x y : Float) → T (clearish x) → T (clearish y) → T (clearish (div binary64 x y))
unfolding div
clear_div nan y h k = tt
clear_div (inf s) nan h k = tt
clear_div (inf s) (inf t) h k = tt
clear_div (inf true) (fin t n d) h k = absurd h
clear_div (inf false) (fin true n d) h k = absurd k
clear_div (inf false) (fin false n d) h k = tt
clear_div (fin s m e) nan h k = tt
clear_div (fin true m e) (inf t) h k = absurd h
clear_div (fin false m e) (inf true) h k = absurd k
clear_div (fin false m e) (inf false) h k = tt
clear_div (fin true m e) (fin t n d) h k = absurd h
clear_div (fin false m e) (fin true n d) h k = absurd k
clear_div (fin false m e) (fin false n d) h k = go (eqb n 0) (eqb m 0)
  where
    go : (a b : Bool)
        → T (clearish (cond a (cond b nan (inf false)) (round binary64 false (m * up e * down d) (n * up d * down e))))
    go true true = tt
    go true false = tt
    go false b = plain_clearish (round binary64 false (m * up e * down d) (n * up d * down e)) (round_plain binary64 (m * up e * down d) (n * up d * down e))

-- a number less an earlier time
pub clear_gap : (t p : Float) → T (is_time p) → T (lt p t) → T (clearish (sub binary64 t p))
unfolding is_sign_negative
clear_gap t nan a l = absurd a
clear_gap t (inf s) a l = absurd a
clear_gap t (fin true n d) a l = absurd a
clear_gap nan (fin false n d) a l = unfold lt in absurd l
clear_gap (inf true) (fin false n d) a l = unfold lt in absurd l
clear_gap (inf false) (fin false n d) a l = unfold sub add neg in tt
clear_gap (fin true m e) (fin false n d) a l = unfold lt in absurd l
clear_gap (fin false m e) (fin false n d) a l = plain_clearish (sub binary64 (fin false m e) (fin false n d)) (gap_plain (fin false m e) (fin false n d) tt tt (lt→le (fin false n d) (fin false m e) l))

-- the gap between two times
pub clear_time_gap : (t p : Float) → T (is_time t) → T (is_time p) → T (le p t) → T (clearish (sub binary64 t p))
clear_time_gap t p a b l = plain_clearish (sub binary64 t p) (gap_plain t p a b l)
