-- These serve the private parts of the scan, and follow its code step by step; what is to be believed is `scan`, of Scan.antt.
use Rattle.std.specs.Prelude.{ℕ, zero, suc, ◌+◌, ◌-◌, ◌*◌, List, [], ◌∷◌, Bool, true, false, cond, ◌&&◌, Option, Some, None, option_and_then, get_or, ltb, leb, eqb}
use Rattle.columns.specs.Scan.{limit}

-- ---- n bytes of a column from a place on

-- a byte that is a space, or a digit
abbrev pub is_space : ℕ → Bool
is_space b = eqb b 32

abbrev pub is_digit : ℕ → Bool
is_digit b = leb 48 b && leb b 57

-- each byte passes a test
unfoldable pub every : (ℕ → Bool) → List ℕ → ℕ → ℕ → Bool
every p c at zero = true
every p c at (suc n) = every p c at n && p (get_or c (at + n) 0)

-- their digits, in decimal
unfoldable pub number_at : List ℕ → ℕ → ℕ → ℕ
number_at c at zero = 0
number_at c at (suc n) = number_at c at n * 10 + (get_or c (at + n) 0 - 48)

-- the value of a digit
unfoldable pub digit_value : ℕ → Option ℕ
digit_value b = cond (is_digit b) (Some (b - 48)) None

-- a digit after those of v as a number; none where the byte is no digit, or 64 bits do not hold it
unfoldable pub value_with : ℕ → ℕ → Option ℕ
value_with v b = cond (is_digit b && ltb (v * 10 + (b - 48)) limit) (Some (v * 10 + (b - 48))) None

-- and more of them
unfoldable pub value_after : ℕ → List ℕ → Option ℕ
value_after v [] = Some v
value_after v (b ∷ rest) = option_and_then (λ (w : ℕ). value_after w rest) (value_with v b)

-- what is left after spaces, and after a minus
unfoldable pub after_spaces : List ℕ → List ℕ
after_spaces [] = []
after_spaces (b ∷ rest) = cond (is_space b) (after_spaces rest) (b ∷ rest)

unfoldable pub minus_first : List ℕ → Bool
minus_first [] = false
minus_first (b ∷ rest) = eqb b 45

unfoldable pub after_minus : List ℕ → List ℕ
after_minus [] = []
after_minus (b ∷ rest) = cond (eqb b 45) rest (b ∷ rest)
