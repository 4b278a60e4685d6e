-- The text of a number in its column (docs/ROW_FILES.md: decimal, right-justified, 21 wide, spaces before, no leading zeros, a minus only before a negative
-- integer), and what it is to write it into a buffer.
use Rattle.std.specs.Prelude.{ℕ, zero, suc, ◌+◌, ◌/◌, ◌%◌, ◌≡◌, List, [], ◌∷◌, ◌++◌, Bool, true, false, cond, length, take, drop, replicate, ltb}

-- the places of a column
abbrev pub width : ℕ
width = 21

abbrev pub space : ℕ
space = 32

-- the byte before the first digit: a minus, or a space
abbrev pub mark : Bool → ℕ
mark true = 45
mark false = space

-- w places that end in a mark, with spaces before it
abbrev pub pad : ℕ → ℕ → List ℕ
pad m zero = []
pad m (suc w) = replicate w space ++ (m ∷ [])

-- n in decimal at the end of w places, with no leading zero, a mark before its first digit and spaces before that
abbrev pub text : ℕ → ℕ → ℕ → List ℕ
text m zero n = []
text m (suc w) n = cond (ltb n 10) (pad m w) (text m w (n / 10)) ++ ((48 + n % 10) ∷ [])

-- the last w digits of n, with zeros before its first
unfoldable pub digits : ℕ → ℕ → List ℕ
digits zero n = []
digits (suc w) n = digits w (n / 10) ++ ((48 + n % 10) ∷ [])

-- the column of a number, or of its negation
unfoldable pub column : Bool → ℕ → List ℕ
column negative n = text (mark negative) width n

-- a buffer with the bytes t in place of those from `at` on, and every other byte as it was
abbrev pub over : List ℕ → ℕ → List ℕ → List ℕ
over buffer at t = take at buffer ++ t ++ drop (at + length t) buffer

-- what writing a text of n bytes leaves: the buffer with that text in it and nothing else changed, and the place after the text
pub record Wrote (buffer : List ℕ) (at : ℕ) (t : List ℕ) (n : ℕ) (after : List ℕ) (next : ℕ) : Type 0 where
  pub bytes : after ≡ over buffer at t
  pub long : length t ≡ n
  pub place : next ≡ at + n
