-- Two numbers of binary64 are the same time exactly where they have one 64-bit pattern, as the Rust's `store` asks. A NaN has no one pattern. Assumes nothing.
use Prim.Native.Nat.{◌*◌}
use mathlib.Core.Path.{◌≡◌, refl, sym, ap, ◌∙◌}
use mathlib.Core.Bool.{Bool, true, false, ◌||◌, beq}
use lib.Dec.{T, eqb, eqb→eq, eqb_refl}
use lib.Ieee.{Float, nan, inf, fin, binary64, up, down, eq, fits, is_nan, to_bits, of_bits}
use lib.Ieee.Bits.{of_bits-to_bits}
use lib.Ieee.Fits.{down_pos, and_i, and_l, and_r}
use Rattle.reals.specs.Sign.{is_sign_negative}
use Rattle.reals.proofs.Truth.{same}
use Rattle.reals.proofs.Round.{value_unique}
use Rattle.reals.proofs.FloatOrder.{self_equal}
use Rattle.moving_average.specs.Window.{same_time}

one_sign : (s t : Bool) → T (beq s t) → s ≡ t
one_sign true true h = refl
one_sign true false h = absurd h
one_sign false true h = absurd h
one_sign false false h = refl

itself : (s : Bool) → T (beq s s)
itself true = tt
itself false = tt

-- equal numbers with one sign are the same data
one_value : (a b : Float) → T (fits binary64 a) → T (fits binary64 b) → T (eq a b) → T (beq (is_sign_negative a) (is_sign_negative b)) → a ≡ b
unfolding eq is_sign_negative
one_value nan b p q e s = absurd e
one_value (inf s) nan p q e r = absurd e
one_value (inf s) (inf t) p q e r = ap inf (one_sign s t r)
one_value (inf s) (fin t n d) p q e r = absurd e
one_value (fin s m k) nan p q e r = absurd e
one_value (fin s m k) (inf t) p q e r = absurd e
one_value (fin s m k) (fin t n d) p q e r =
    value_unique binary64 (fin s m k) (fin t n d) s (m * up k) (down k) (down_pos k) p q (refl, refl)
    (sym (one_sign s t r), sym (eqb→eq (m * up k * down d) (n * up d * down k) (and_l (eqb (m * up k * down d) (n * up d * down k)) (beq s t || eqb (m * up k * down d) 0) e)))

one_pattern : (a b : Float) → T (fits binary64 a) → T (fits binary64 b) → to_bits binary64 a ≡ to_bits binary64 b → a ≡ b
one_pattern a b p q e = sym (of_bits-to_bits binary64 a p) ∙ ap (of_bits binary64) e ∙ of_bits-to_bits binary64 b q

pub same_pattern : (a b : Float) → T (fits binary64 a) → T (fits binary64 b) → is_nan a ≡ false → same_time a b ≡ eqb (to_bits binary64 a) (to_bits binary64 b)
unfolding same_time
same_pattern a b p q n = same (same_time a b) (eqb (to_bits binary64 a) (to_bits binary64 b)) to back
  where
    to : T (same_time a b) → T (eqb (to_bits binary64 a) (to_bits binary64 b))
    to h =
        let r = beq (is_sign_negative a) (is_sign_negative b) in
        let e = one_value a b p q (and_l (eq a b) r h) (and_r (eq a b) r h) in
        rw (← e) (eqb_refl (to_bits binary64 a))

    back : T (eqb (to_bits binary64 a) (to_bits binary64 b)) → T (same_time a b)
    back h =
        let e = one_pattern a b p q (eqb→eq (to_bits binary64 a) (to_bits binary64 b) h) in
        rw (← e) (and_i (eq a a) (beq (is_sign_negative a) (is_sign_negative a)) (rw (self_equal a, n) tt) (itself (is_sign_negative a)))
