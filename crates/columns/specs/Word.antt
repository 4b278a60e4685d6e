-- The value that a word stands for (docs/ROW_FILES.md): a float as its 64-bit pattern, a yes as 1, a no as 0. A float is `of_bits` of its word: any pattern
-- of a NaN is read, and `to_bits` writes one.
use Rattle.std.specs.Prelude.{ℕ, ◌-◌, Bool, cond, ltb, ℤ, pos, negsuc}

abbrev pub yes_no_word : Bool → ℕ
yes_no_word b = cond b 1 0

-- 2^63: half of the words, and those from here on stand for negative numbers; and the last word, which stands for −1
abbrev pub half : ℕ
half = 9223372036854775808

abbrev pub last_word : ℕ
last_word = 18446744073709551615

-- two's complement
unfoldable pub word_signed : ℕ → ℤ
word_signed word = cond (ltb word half) (pos word) (negsuc (last_word - word))

-- and the other way
abbrev pub signed_word : ℤ → ℕ
signed_word (pos n) = n
signed_word (negsuc k) = last_word - k
