-- The number that stands in a column: the one whose column is just these bytes.
use Rattle.std.specs.Prelude.{ℕ, ◌+◌, ◌-◌, ◌*◌, List, [], ◌∷◌, Bool, true, false, cond, ◌&&◌, ◌||◌, Option, Some, None, ltb, leb, eqb}
use Rattle.columns.specs.Column.{column}
use Rattle.columns.specs.declared.scan.Number.{Number}

-- two lists of bytes are the same
abbrev pub same : List ℕ → List ℕ → Bool
same [] [] = true
same [] (y ∷ ys) = false
same (x ∷ xs) [] = false
same (x ∷ xs) (y ∷ ys) = eqb x y && same xs ys

-- the number of a digit; 0 for any other byte
unfoldable pub digit : ℕ → ℕ
digit b = cond (leb 48 b && leb b 57) (b - 48) 0

-- some bytes as decimal digits after those of v
abbrev pub decimal_after : ℕ → List ℕ → ℕ
decimal_after v [] = v
decimal_after v (b ∷ rest) = decimal_after (v * 10 + digit b) rest

-- the number of which some bytes may be the column: their digits, in decimal
unfoldable pub decimal : List ℕ → ℕ
decimal bytes = decimal_after 0 bytes

-- a minus is among some bytes
abbrev pub has_minus : List ℕ → Bool
has_minus [] = false
has_minus (b ∷ rest) = eqb b 45 || has_minus rest

-- the numbers that 64 bits hold are below this
abbrev pub limit : ℕ
limit = 18446744073709551616

-- ---- the whole column

-- a number, after a minus or not
abbrev pub number : Bool → ℕ → Number
number negative value = record { negative = negative; value = value }

-- the number exactly when the bytes are its column and 64 bits hold it; none where the column is badly formed
unfoldable pub scan : List ℕ → Option Number
scan bytes =
    cond (same bytes (column (has_minus bytes) (decimal bytes)) && ltb (decimal bytes) limit)
    (Some (number (has_minus bytes) (decimal bytes)))
    None
