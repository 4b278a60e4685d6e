-- A word as lanes of as many bits each, worked all at the same time: what a mask keeps of each lane. A word of lanes is made from its last lane on, each below
-- the ones before. Assumes nothing.
use Prim.Native.Nat.{ℕ, ◌+◌, ◌-◌, ◌*◌, ◌/◌, ◌%◌, ◌^◌, ◌≤◌, ◌<◌}
use mathlib.Core.Path.{◌≡◌, sym, ap, ap₂, ◌∙◌}
use native.Mathlib.Omega.{arith}
use native.Mathlib.Nat.{div-add-mod', mod-lt}
use lib.Bits.{bit_and, and_block, and_mask}
use lib.Pow.{pow_pos}

-- of the lowest lane of k bits its lowest m, and of the lanes above it what their mask keeps
pub lane : (k m n mask high low : ℕ) → 2 ^ m - 1 < 2 ^ k → n / 2 ^ k ≡ high → n % 2 ^ k % 2 ^ m ≡ low
    → bit_and n (mask * 2 ^ k + (2 ^ m - 1)) ≡ bit_and high mask * 2 ^ k + low
lane k m n mask high low h e f =
    ap (λ (x : ℕ). bit_and x (mask * 2 ^ k + (2 ^ m - 1))) (sym (div-add-mod' n (2 ^ k)))
    ∙ and_block k (n / 2 ^ k) mask (n % 2 ^ k) (2 ^ m - 1) (mod-lt n (pow_pos k)) h
    ∙ ap₂ (λ (x y : ℕ). bit_and x mask * 2 ^ k + y) e (and_mask (n % 2 ^ k) m ∙ f)

-- ---- a lane cut into the quotient and the remainder

-- by 100, in lanes of 32 bits
hundreds_step : (y d mask : ℕ) → d < 10000
    → bit_and ((y * 4294967296 + d) * 10486 / 1048576) (mask * 4294967296 + 127) ≡ bit_and (y * 10486 / 1048576) mask * 4294967296 + d / 100
hundreds_step y d mask h =
    let q : d * 10486 / 1048576 ≡ d / 100 = omega arith in
    let e : (y * 4294967296 + d) * 10486 / 1048576 ≡ y * 42950656 + d / 100 = omega arith in
    let f : (y * 42950656 + d / 100) / 4294967296 ≡ y * 10486 / 1048576 = omega arith in
    let g : (y * 42950656 + d / 100) % 4294967296 % 128 ≡ d / 100 = omega arith in
    lane 32 7 ((y * 4294967296 + d) * 10486 / 1048576) mask _ _ (omega arith) (ap (λ (x : ℕ). x / 4294967296) e ∙ f) (ap (λ (x : ℕ). x % 4294967296 % 128) e ∙ g)

-- by 10, in lanes of 16 bits
tens_step : (y d mask : ℕ) → d < 100
    → bit_and ((y * 65536 + d) * 103 / 1024) (mask * 65536 + 15) ≡ bit_and (y * 103 / 1024) mask * 65536 + d / 10
tens_step y d mask h =
    let q : d * 103 / 1024 ≡ d / 10 = omega arith in
    let e : (y * 65536 + d) * 103 / 1024 ≡ y * 6592 + d / 10 = omega arith in
    let f : (y * 6592 + d / 10) / 65536 ≡ y * 103 / 1024 = omega arith in
    let g : (y * 6592 + d / 10) % 65536 % 16 ≡ d / 10 = omega arith in
    lane 16 4 ((y * 65536 + d) * 103 / 1024) mask _ _ (omega arith) (ap (λ (x : ℕ). x / 65536) e ∙ f) (ap (λ (x : ℕ). x % 65536 % 16) e ∙ g)

pub hundreds_of_lem : (a b : ℕ) → a < 10000 → b < 10000 → bit_and ((a + b * 4294967296) * 10486 / 1048576) 545460846719 ≡ a / 100 + b / 100 * 4294967296
hundreds_of_lem a b h k =
    let e : a + b * 4294967296 ≡ (0 * 4294967296 + b) * 4294967296 + a = omega arith in
    ap (λ (x : ℕ). bit_and (x * 10486 / 1048576) 545460846719) e
    ∙ hundreds_step (0 * 4294967296 + b) a 127 h
    ∙ ap (λ (x : ℕ). x * 4294967296 + a / 100) (hundreds_step 0 b 0 k)
    ∙ omega arith

pub tens_of_lem : (a b c d : ℕ) → a < 100 → b < 100 → c < 100 → d < 100
    → bit_and ((a + b * 65536 + c * 4294967296 + d * 281474976710656) * 103 / 1024) 4222189076152335 ≡ a / 10 + b / 10 * 65536 + c / 10 * 4294967296 + d / 10 * 281474976710656
tens_of_lem a b c d h i j k =
    let z : ℕ = 0 * 65536 + d in
    let y : ℕ = z * 65536 + c in
    let x : ℕ = y * 65536 + b in
    let e : a + b * 65536 + c * 4294967296 + d * 281474976710656 ≡ x * 65536 + a = omega arith in
    ap (λ (w : ℕ). bit_and (w * 103 / 1024) 4222189076152335) e
    ∙ tens_step x a 64425492495 h
    ∙ ap (λ (w : ℕ). w * 65536 + a / 10) (tens_step y b 983055 i)
    ∙ ap (λ (w : ℕ). (w * 65536 + b / 10) * 65536 + a / 10) (tens_step z c 15 j)
    ∙ ap (λ (w : ℕ). ((w * 65536 + c / 10) * 65536 + b / 10) * 65536 + a / 10) (tens_step 0 d 0 k)
    ∙ omega arith

-- ---- the digits of a number below 10^8, in lanes of four, of two and of one

abbrev fours_of : ℕ → ℕ
fours_of n = n / 10000 + n % 10000 * 4294967296

abbrev hundreds_of : ℕ → ℕ
hundreds_of n = bit_and (fours_of n * 10486 / 1048576) 545460846719

abbrev twos_of : ℕ → ℕ
twos_of n = fours_of n * 65536 - hundreds_of n * 6553599

abbrev tens_of : ℕ → ℕ
tens_of n = bit_and (twos_of n * 103 / 1024) 4222189076152335

at_most : {a b c d : ℕ} → a ≡ b → c ≡ d → b ≤ d → a ≤ c
at_most e f h = omega arith

-- lanes of p, r and of what is below them become lanes of all of these
fours_twos : (p q r s : ℕ) → ((p + r * 4294967296) * 6553599 ≤ (p * 100 + q + (r * 100 + s) * 4294967296) * 65536)
    × ((p * 100 + q + (r * 100 + s) * 4294967296) * 65536 - (p + r * 4294967296) * 6553599 ≡ p + q * 65536 + r * 4294967296 + s * 281474976710656)
fours_twos p q r s = (omega arith, omega arith)

twos_ones : (a b c d e f g h : ℕ)
    → ((a + c * 65536 + e * 4294967296 + g * 281474976710656) * 2559
    ≤ (a * 10 + b + (c * 10 + d) * 65536 + (e * 10 + f) * 4294967296 + (g * 10 + h) * 281474976710656) * 256)
    × ((a * 10 + b + (c * 10 + d) * 65536 + (e * 10 + f) * 4294967296 + (g * 10 + h) * 281474976710656) * 256
    - (a + c * 65536 + e * 4294967296 + g * 281474976710656) * 2559 + 3472328296227680304
    ≡ 48 + a + 256 * (48 + b + 256 * (48 + c + 256 * (48 + d + 256 * (48 + e + 256 * (48 + f + 256 * (48 + g + 256 * (48 + h))))))))
twos_ones a b c d e f g h = (omega arith, omega arith)

twos_below : (p q r s : ℕ) → p < 100 → q < 100 → r < 100 → s < 100 → p + q * 65536 + r * 4294967296 + s * 281474976710656 < 28147497671065600
twos_below p q r s h i j k = omega arith

module _ (n : ℕ) (h : n < 100000000) where
  fours_are : fours_of n ≡ n / 1000000 * 100 + n / 10000 % 100 + (n / 100 % 100 * 100 + n % 100) * 4294967296
  fours_are =
      let e : n / 10000 ≡ n / 1000000 * 100 + n / 10000 % 100 = omega arith in
      let f : n % 10000 ≡ n / 100 % 100 * 100 + n % 100 = omega arith in
      ap₂ (λ (x y : ℕ). x + y * 4294967296) e f

  hundreds_are : hundreds_of n ≡ n / 1000000 + n / 100 % 100 * 4294967296
  hundreds_are =
      let e : n / 10000 / 100 ≡ n / 1000000 = omega arith in
      let f : n % 10000 / 100 ≡ n / 100 % 100 = omega arith in
      hundreds_of_lem (n / 10000) (n % 10000) (omega arith) (omega arith) ∙ ap₂ (λ (x y : ℕ). x + y * 4294967296) e f

  pub hundreds_fit : hundreds_of n * 6553599 ≤ fours_of n * 65536
  hundreds_fit =
      at_most (ap (λ (x : ℕ). x * 6553599) hundreds_are) (ap (λ (x : ℕ). x * 65536) fours_are)
      (fours_twos (n / 1000000) (n / 10000 % 100) (n / 100 % 100) (n % 100)).0

  twos_are : twos_of n ≡ n / 1000000 + n / 10000 % 100 * 65536 + n / 100 % 100 * 4294967296 + n % 100 * 281474976710656
  twos_are =
      ap₂ (λ (x y : ℕ). x * 65536 - y * 6553599) fours_are hundreds_are
      ∙ (fours_twos (n / 1000000) (n / 10000 % 100) (n / 100 % 100) (n % 100)).1

  pub twos_small : twos_of n < 28147497671065600
  twos_small = rw twos_are (twos_below (n / 1000000) (n / 10000 % 100) (n / 100 % 100) (n % 100) (omega arith) (omega arith) (omega arith) (omega arith))

  -- the same, digit by digit
  twos_digits : twos_of n ≡ n / 10000000 * 10 + n / 1000000 % 10 + (n / 100000 % 10 * 10 + n / 10000 % 10) * 65536
      + (n / 1000 % 10 * 10 + n / 100 % 10) * 4294967296 + (n / 10 % 10 * 10 + n % 10) * 281474976710656
  twos_digits =
      let d : n / 1000000 ≡ n / 10000000 * 10 + n / 1000000 % 10 = omega arith in
      let e : n / 10000 % 100 ≡ n / 100000 % 10 * 10 + n / 10000 % 10 = omega arith in
      let f : n / 100 % 100 ≡ n / 1000 % 10 * 10 + n / 100 % 10 = omega arith in
      let g : n % 100 ≡ n / 10 % 10 * 10 + n % 10 = omega arith in
      twos_are
      ∙ ap₂ (λ (x y : ℕ). x + y * 65536 + n / 100 % 100 * 4294967296 + n % 100 * 281474976710656) d e
      ∙ ap₂ (λ (x y : ℕ). n / 10000000 * 10 + n / 1000000 % 10 + (n / 100000 % 10 * 10 + n / 10000 % 10) * 65536 + x * 4294967296 + y * 281474976710656) f g

  tens_are : tens_of n ≡ n / 10000000 + n / 100000 % 10 * 65536 + n / 1000 % 10 * 4294967296 + n / 10 % 10 * 281474976710656
  tens_are =
      let d : n / 1000000 / 10 ≡ n / 10000000 = omega arith in
      let e : n / 10000 % 100 / 10 ≡ n / 100000 % 10 = omega arith in
      let f : n / 100 % 100 / 10 ≡ n / 1000 % 10 = omega arith in
      let g : n % 100 / 10 ≡ n / 10 % 10 = omega arith in
      ap (λ (x : ℕ). bit_and (x * 103 / 1024) 4222189076152335) twos_are
      ∙ tens_of_lem (n / 1000000) (n / 10000 % 100) (n / 100 % 100) (n % 100) (omega arith) (omega arith) (omega arith) (omega arith)
      ∙ ap₂ (λ (x y : ℕ). x + y * 65536 + n / 100 % 100 / 10 * 4294967296 + n % 100 / 10 * 281474976710656) d e
      ∙ ap₂ (λ (x y : ℕ). n / 10000000 + n / 100000 % 10 * 65536 + x * 4294967296 + y * 281474976710656) f g

  pub tens_fit : tens_of n * 2559 ≤ twos_of n * 256
  tens_fit =
      at_most (ap (λ (x : ℕ). x * 2559) tens_are) (ap (λ (x : ℕ). x * 256) twos_digits)
      (twos_ones (n / 10000000) (n / 1000000 % 10) (n / 100000 % 10) (n / 10000 % 10) (n / 1000 % 10) (n / 100 % 10) (n / 10 % 10) (n % 10)).0

  pub digits_packed : twos_of n * 256 - tens_of n * 2559 + 3472328296227680304
      ≡ 48 + n / 10000000 + 256 * (48 + n / 1000000 % 10 + 256 * (48 + n / 100000 % 10 + 256 * (48 + n / 10000 % 10
      + 256 * (48 + n / 1000 % 10 + 256 * (48 + n / 100 % 10 + 256 * (48 + n / 10 % 10 + 256 * (48 + n % 10)))))))
  digits_packed =
      ap₂ (λ (x y : ℕ). x * 256 - y * 2559 + 3472328296227680304) twos_digits tens_are
      ∙ (twos_ones (n / 10000000) (n / 1000000 % 10) (n / 100000 % 10) (n / 10000 % 10) (n / 1000 % 10) (n / 100 % 10) (n / 10 % 10) (n % 10)).1

-- ---- two lanes joined into one

cut_16 : (y m r : ℕ) → m < 256 → r < 256 → ((y * 65536 + m * 256 + r) / 65536 ≡ y) × ((y * 65536 + m * 256 + r) % 65536 % 256 ≡ r)
cut_16 y m r h i = (omega arith, omega arith)

cut_32 : (y m r : ℕ) → m < 65536 → r < 65536 → ((y * 4294967296 + m * 65536 + r) / 4294967296 ≡ y) × ((y * 4294967296 + m * 65536 + r) % 4294967296 % 65536 ≡ r)
cut_32 y m r h i = (omega arith, omega arith)

-- digits, in lanes of 8 bits
twos_step : (y b a mask : ℕ) → a < 10 → b < 10 → y % 256 < 10
    → bit_and (((y * 256 + b) * 256 + a) * 10 + ((y * 256 + b) * 256 + a) / 256) (mask * 65536 + 255) ≡ bit_and (y * 10 + y / 256) mask * 65536 + (a * 10 + b)
twos_step y b a mask h i j =
    let e : ((y * 256 + b) * 256 + a) * 10 + ((y * 256 + b) * 256 + a) / 256 ≡ (y * 10 + y / 256) * 65536 + (b * 10 + y % 256) * 256 + (a * 10 + b) = omega arith in
    let p = cut_16 (y * 10 + y / 256) (b * 10 + y % 256) (a * 10 + b) (omega arith) (omega arith) in
    lane 16 8 (((y * 256 + b) * 256 + a) * 10 + ((y * 256 + b) * 256 + a) / 256) mask (y * 10 + y / 256) (a * 10 + b) (omega arith)
    (ap (λ (x : ℕ). x / 65536) e ∙ p.0)
    (ap (λ (x : ℕ). x % 65536 % 256) e ∙ p.1)

-- numbers of two digits, in lanes of 16
fours_step : (y b a mask : ℕ) → a < 100 → b < 100 → y % 65536 < 100
    → bit_and (((y * 65536 + b) * 65536 + a) * 100 + ((y * 65536 + b) * 65536 + a) / 65536) (mask * 4294967296 + 65535)
    ≡ bit_and (y * 100 + y / 65536) mask * 4294967296 + (a * 100 + b)
fours_step y b a mask h i j =
    let e : ((y * 65536 + b) * 65536 + a) * 100 + ((y * 65536 + b) * 65536 + a) / 65536 ≡ (y * 100 + y / 65536) * 4294967296 + (b * 100 + y % 65536) * 65536 + (a * 100 + b) = omega arith in
    let p = cut_32 (y * 100 + y / 65536) (b * 100 + y % 65536) (a * 100 + b) (omega arith) (omega arith) in
    lane 32 16 (((y * 65536 + b) * 65536 + a) * 100 + ((y * 65536 + b) * 65536 + a) / 65536) mask (y * 100 + y / 65536) (a * 100 + b) (omega arith)
    (ap (λ (x : ℕ). x / 4294967296) e ∙ p.0)
    (ap (λ (x : ℕ). x % 4294967296 % 65536) e ∙ p.1)

-- the word of eight bytes, the first the lowest
abbrev pub word_of : ℕ → ℕ → ℕ → ℕ → ℕ → ℕ → ℕ → ℕ → ℕ
word_of a b c d e f g h = a + b * 256 + (c + d * 256) * 65536 + (e + f * 256 + (g + h * 256) * 65536) * 4294967296

abbrev pub ones_in : ℕ → ℕ
ones_in word = word - 3472328296227680304

abbrev pub twos_in : ℕ → ℕ
twos_in word = bit_and (ones_in word * 10 + ones_in word / 256) 71777214294589695

abbrev pub fours_in : ℕ → ℕ
fours_in word = bit_and (twos_in word * 100 + twos_in word / 65536) 281470681808895

last_lane : (y a : ℕ) → a < 10 → (y * 256 + a) % 256 < 10
last_lane y a h = omega arith

tens_small : (a b : ℕ) → a < 10 → b < 10 → a * 10 + b < 100
tens_small a b h i = omega arith

-- two numbers of four digits in lanes of 32 bits
eight_joined : (u v x : ℕ) → u < 10000 → v < 10000 → x ≡ (0 * 4294967296 + v) * 4294967296 + u
    → (x < 42949672960000) × ((x * 10000 + x / 4294967296) % 4294967296 ≡ u * 10000 + v)
eight_joined u v x h i e =
    let f : x / 4294967296 ≡ v = omega arith in
    let g : (x * 10000 + v) % 4294967296 ≡ u * 10000 + v = omega arith in
    (omega arith, ap (λ (z : ℕ). (x * 10000 + z) % 4294967296) f ∙ g)

-- numbers of two digits in lanes of 16 bits, joined into four digits and into eight
module _ (p q r s : ℕ) (h : p < 100) (i : q < 100) (j : r < 100) (k : s < 100) where
  fours_are_in : (w : ℕ) → w ≡ (((0 * 65536 + s) * 65536 + r) * 65536 + q) * 65536 + p
      → bit_and (w * 100 + w / 65536) 281470681808895 ≡ (0 * 4294967296 + (r * 100 + s)) * 4294967296 + (p * 100 + q)
  fours_are_in w e =
      let y : ℕ = (0 * 65536 + s) * 65536 + r in
      let l : y % 65536 < 100 = omega arith in
      ap (λ (x : ℕ). bit_and (x * 100 + x / 65536) 281470681808895) e
      ∙ fours_step y q p 65535 h i l
      ∙ ap (λ (x : ℕ). x * 4294967296 + (p * 100 + q)) (fours_step 0 s r 0 j k (omega arith))

  fours_joined : (w : ℕ) → w ≡ (((0 * 65536 + s) * 65536 + r) * 65536 + q) * 65536 + p
      → (w < 28147497671065600) × (bit_and (w * 100 + w / 65536) 281470681808895 < 42949672960000)
      × ((bit_and (w * 100 + w / 65536) 281470681808895 * 10000 + bit_and (w * 100 + w / 65536) 281470681808895 / 4294967296) % 4294967296
      ≡ (p * 100 + q) * 10000 + (r * 100 + s))
  fours_joined w e =
      let x = eight_joined (p * 100 + q) (r * 100 + s) (bit_and (w * 100 + w / 65536) 281470681808895) (omega arith) (omega arith) (fours_are_in w e) in
      (omega arith, x.0, x.1)

-- what is worked from the bytes of eight digits: it stays within 64 bits (what the masks leave does so anyway), and is the number of these
pub record Joined (word n : ℕ) : Type 0 where
  pub least : 3472328296227680304 ≤ word
  pub ones_small : ones_in word < 720575940379279360
  pub is : (fours_in word * 10000 + fours_in word / 4294967296) % 4294967296 ≡ n

module _ (a b c d e f g h : ℕ) where
  ones_least : 3472328296227680304 ≤ word_of (48 + a) (48 + b) (48 + c) (48 + d) (48 + e) (48 + f) (48 + g) (48 + h)
  ones_least = omega arith

  ones_are : ones_in (word_of (48 + a) (48 + b) (48 + c) (48 + d) (48 + e) (48 + f) (48 + g) (48 + h))
      ≡ (((((((0 * 256 + h) * 256 + g) * 256 + f) * 256 + e) * 256 + d) * 256 + c) * 256 + b) * 256 + a
  ones_are = omega arith

  module _ (i : a < 10) (j : b < 10) (k : c < 10) (l : d < 10) (m : e < 10) (n : f < 10) (o : g < 10) (p : h < 10) where
    ones_below : (((((((0 * 256 + h) * 256 + g) * 256 + f) * 256 + e) * 256 + d) * 256 + c) * 256 + b) * 256 + a < 720575940379279360
    ones_below = omega arith

    twos_joined : twos_in (word_of (48 + a) (48 + b) (48 + c) (48 + d) (48 + e) (48 + f) (48 + g) (48 + h))
        ≡ (((0 * 65536 + (g * 10 + h)) * 65536 + (e * 10 + f)) * 65536 + (c * 10 + d)) * 65536 + (a * 10 + b)
    twos_joined =
        let z : ℕ = (0 * 256 + h) * 256 + g in
        let y : ℕ = (z * 256 + f) * 256 + e in
        let x : ℕ = (y * 256 + d) * 256 + c in
        ap (λ (w : ℕ). bit_and (w * 10 + w / 256) 71777214294589695) ones_are
        ∙ twos_step x b a 1095233372415 i j (last_lane (y * 256 + d) c k)
        ∙ ap (λ (w : ℕ). w * 65536 + (a * 10 + b)) (twos_step y d c 16711935 k l (last_lane (z * 256 + f) e m))
        ∙ ap (λ (w : ℕ). (w * 65536 + (c * 10 + d)) * 65536 + (a * 10 + b)) (twos_step z f e 255 m n (last_lane (0 * 256 + h) g o))
        ∙ ap (λ (w : ℕ). ((w * 65536 + (e * 10 + f)) * 65536 + (c * 10 + d)) * 65536 + (a * 10 + b)) (twos_step 0 h g 0 o p (omega arith))

    pub joined : (word : ℕ) → word ≡ word_of (48 + a) (48 + b) (48 + c) (48 + d) (48 + e) (48 + f) (48 + g) (48 + h)
        → Joined word ((((((((a * 10 + b) * 10 + c) * 10 + d) * 10 + e) * 10 + f) * 10 + g) * 10 + h))
    joined word q =
        let t = ap twos_in q ∙ twos_joined in
        let u = fours_joined (a * 10 + b) (c * 10 + d) (e * 10 + f) (g * 10 + h) (tens_small a b i j) (tens_small c d k l) (tens_small e f m n) (tens_small g h o p) (twos_in word) t in
        record {
          least = rw q ones_least;
          ones_small = rw (q, ones_are) ones_below;
          is = u.2 ∙ omega arith;
        }
