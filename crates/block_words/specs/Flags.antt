-- A flag as a word.
use Rattle.std.specs.Prelude.{ℕ, Bool, true, false, cond, eqb}

-- false is 0, and true 1
unfoldable pub flag_word : Bool → ℕ
flag_word false = 0
flag_word true = 1

-- any word but 0 is read as true
unfoldable pub word_flag : ℕ → Bool
word_flag w = cond (eqb w 0) false true
