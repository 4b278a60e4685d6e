-- `Option<f64>` as words. Written by tools/words.
use Rattle.std.specs.Prelude.{eqb, cond, Float, Option, None, Some}
use Rattle.block_words.specs.declared.seen.SeenWords.{SeenWords}
use Rattle.reals.specs.Constants.{plus_zero}

-- `Option<f64>` as words
unfoldable pub seen_words : Option Float → SeenWords
seen_words None = record { variant = 0; at = plus_zero }
seen_words (Some x) = record { variant = 1; at = x }

-- the `Option<f64>` that words stand for; a number that no variant has is read as `Some`
unfoldable pub seen_of : SeenWords → Option Float
seen_of w = cond (eqb w.variant 0) None (Some w.at)
