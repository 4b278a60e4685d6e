-- A run of rows that has lasted n seconds goes on, and where a wider one holds that has lasted too. Assumes nothing.
use Prim.Native.Nat.{ℕ, ◌-◌, ◌*◌, ◌≤◌}
use native.Mathlib.Nat.{mul_comm, mul_assoc, mul_left_comm, mul-sub, mul-pos, mul-le-mul_right}
use native.Mathlib.Omega.{arith}
use mathlib.Core.Path.{◌≡◌, refl, sym, ap₂, ◌∙◌}
use mathlib.Core.Bool.{Bool, true, false, not, ◌&&◌, cond}
use mathlib.Core.List.{List, [], ◌∷◌}
use lib.IntN.{ℤ}
use lib.Dec.{T, ltb}
use lib.Ieee.{Float, nan, inf, fin, binary64, up, down, le, lt, sub, sum, round}
use lib.Ieee.Fits.{down_pos}
use lib.Ieee.Order.{round_mono}
use Rattle.reals.specs.Sign.{is_sign_negative, is_time}
use Rattle.reals.proofs.Truth.{is_true, holds}
use Rattle.reals.proofs.FloatOrder.{to_most, le→not-lt, le_trans, le_refl}
use Rattle.past.specs.Past.{rises}
use Rattle.past.specs.Runs.{since_time, running}
use Rattle.past.specs.Stepped.{in_order}
use Rattle.past.proofs.Laws.{since_with_none}
use Rattle.past.proofs.RunLaws.{last_rise, running_step}
use Rattle.past.proofs.Stepped.{order_before, time_here}
use Rattle.past.proofs.Judged.{time_number}
use Rattle.past.proofs.ElapsedLaws.{rise_first, rise_time, still_reached}
use Rattle.relief_answers.proofs.Flags.{no, both_are}

-- ---- of two earlier times the later one is the less long ago
pub sub_mul : (a b k : ℕ) → (a - b) * k ≡ a * k - b * k
sub_mul a b k = mul_comm (a - b) k ∙ mul-sub k a b ∙ ap₂ (λ (i j : ℕ). i - j) (mul_comm k a) (mul_comm k b)

pub gap_is : (m n : ℕ) (e d : ℤ) → T (le (fin false n d) (fin false m e))
    → sub binary64 (fin false m e) (fin false n d) ≡ round binary64 false (m * up e * down d - n * up d * down e) (down e * down d)
unfolding sub sum lt
gap_is m n e d l = let c : ltb (m * up e * down d) (n * up d * down e) ≡ false = le→not-lt (fin false m e) (fin false n d) l in rw c refl

less_taken : (x y z a b r : ℕ) → x * b ≤ y * a → (z * b - y * r) * (r * a) ≤ (z * a - x * r) * (r * b)
less_taken x y z a b r h =
    let i : x * r * (r * b) ≡ x * b * (r * r) = simp (mul_assoc, mul_left_comm, mul_comm) in
    let j : y * r * (r * a) ≡ y * a * (r * r) = simp (mul_assoc, mul_left_comm, mul_comm) in
    let k : z * b * (r * a) ≡ z * a * (r * b) = simp (mul_assoc, mul_left_comm, mul_comm) in
    rw (sub_mul (z * b) (y * r) (r * a), sub_mul (z * a) (x * r) (r * b)) (omega (arith, i, j, k, mul-le-mul_right (r * r) h))

pub minus_anti : (t p q : Float) → T (is_time t) → T (is_time p) → T (is_time q) → T (le p q) → T (le q t)
    → T (le (sub binary64 t q) (sub binary64 t p))
unfolding is_sign_negative
minus_anti nan p q a b c l k = absurd a
minus_anti (inf s) p q a b c l k = absurd a
minus_anti (fin true m e) p q a b c l k = absurd a
minus_anti (fin false m e) nan q a b c l k = absurd b
minus_anti (fin false m e) (inf s) q a b c l k = absurd b
minus_anti (fin false m e) (fin true n d) q a b c l k = absurd b
minus_anti (fin false m e) (fin false n d) nan a b c l k = absurd c
minus_anti (fin false m e) (fin false n d) (inf s) a b c l k = absurd c
minus_anti (fin false m e) (fin false n d) (fin true i g) a b c l k = absurd c
minus_anti (fin false m e) (fin false n d) (fin false i g) a b c l k =
    rw (gap_is m i e g k, gap_is m n e d (le_trans (fin false n d) (fin false i g) (fin false m e) l k))
    (round_mono binary64 (m * up e * down g - i * up g * down e) (down e * down g) (m * up e * down d - n * up d * down e) (down e * down d)
    (mul-pos (down_pos e) (down_pos g)) (mul-pos (down_pos e) (down_pos d))
    (less_taken (n * up d) (i * up g) (m * up e) (down d) (down g) (down e) (unfold le in to_most false false (n * up d * down g) (i * up g * down d) l)))

pub not_below_itself : (t : Float) → T (is_time t) → T (le t t)
not_below_itself t a = le_refl t (time_number t a)

-- ---- runs of rows
module _ {A : Type 0} (time : A → Float) where
  module _ (u : List A → Bool) (e : u [] ≡ false) where
    -- what holds of the start of the run before, or of this row where the run begins here, holds of the start of the run
    at_rise : (P : Float → Type 0) (x : A) (h : List A) → u (x ∷ h) ≡ true → (u h ≡ true → P (last_rise time u e h))
        → (u h ≡ false → P (time x)) → P (last_rise time u e (x ∷ h))
    at_rise P x h p f g = rw p (go (u h) f g)
      where
        go : (b : Bool) → (b ≡ true → P (last_rise time u e h)) → (b ≡ false → P (time x))
            → P (cond (true && not b) (time x) (last_rise time u e h))
        go true f g = f refl
        go false f g = g refl

    pub run_none : (n : Float) → running time n u [] ≡ false
    unfolding running
    run_none n = since_with_none u (rises u) (λ k. le n (since_time time k []))

    -- a run that has lasted goes up to here
    pub run_true : (n : Float) (h : List A) → running time n u h ≡ true → u h ≡ true
    run_true n [] r = no r (run_none n)
    run_true n (x ∷ h) r = (both_are (u (x ∷ h)) (le n (sub binary64 (time x) (last_rise time u e (x ∷ h)))) (sym (running_step time u e n x h) ∙ r)).0

    -- one more row of it, and it has lasted there too
    pub run_goes_on : (n : Float) (x : A) (h : List A) → T (in_order time (x ∷ h)) → running time n u h ≡ true
        → u (x ∷ h) ≡ true → running time n u (x ∷ h) ≡ true
    run_goes_on n x [] o r p = no r (run_none n)
    run_goes_on n x (y ∷ h) o r p =
        let b = both_are (u (y ∷ h)) (le n (sub binary64 (time y) (last_rise time u e (y ∷ h)))) (sym (running_step time u e n y h) ∙ r) in
        running_step time u e n x (y ∷ h)
        ∙ ap₂ (λ (a c : Bool). a && c) p (is_true (le n (sub binary64 (time x) (last_rise time u e (x ∷ (y ∷ h)))))
        (at_rise (λ r. T (le n (sub binary64 (time x) r))) x (y ∷ h) p
        (λ q. still_reached time u e n x (y ∷ h) o (holds _ b.0) (holds _ b.1))
        (λ q. no b.0 q)))

  -- a run of v, which holds wherever u does, has lasted where that of u has
  module _ (u v : List A → Bool) (e : u [] ≡ false) (d : v [] ≡ false) (within : (s : List A) → u s ≡ true → v s ≡ true) where
    rise_order : (h : List A) → T (in_order time h) → u h ≡ true → T (le (last_rise time v d h) (last_rise time u e h))
    rise_order [] o p = no p e
    rise_order (x ∷ h) o p =
        at_rise u e (λ r. T (le (last_rise time v d (x ∷ h)) r)) x h p
        (λ q. at_rise v d (λ r. T (le r (last_rise time u e h))) x h (within (x ∷ h) p) (λ w. rise_order h (order_before time x h o) q) (λ w. no (within h q) w))
        (λ q. rise_first time v d (x ∷ h) o)

    pub run_widens : (n : Float) (h : List A) → T (in_order time h) → running time n u h ≡ true
        → running time n v h ≡ true
    run_widens n [] o r = no r (run_none u e n)
    run_widens n (x ∷ h) o r =
        let b = both_are (u (x ∷ h)) (le n (sub binary64 (time x) (last_rise time u e (x ∷ h)))) (sym (running_step time u e n x h) ∙ r) in
        running_step time v d n x h
        ∙ ap₂ (λ (a c : Bool). a && c) (within (x ∷ h) b.0) (is_true (le n (sub binary64 (time x) (last_rise time v d (x ∷ h))))
        (le_trans n (sub binary64 (time x) (last_rise time u e (x ∷ h))) (sub binary64 (time x) (last_rise time v d (x ∷ h))) (holds _ b.1)
        (minus_anti (time x) (last_rise time v d (x ∷ h)) (last_rise time u e (x ∷ h)) (time_here time x h o) (rise_time time v d (x ∷ h) o) (rise_time time u e (x ∷ h) o)
        (rise_order (x ∷ h) o b.0) (rise_first time u e (x ∷ h) o))))
