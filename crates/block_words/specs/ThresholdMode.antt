-- `ThresholdMode` of reals as words. Written by tools/words.
use Rattle.std.specs.Prelude.{eqb, cond}
use Rattle.block_words.specs.declared.threshold_mode.ThresholdModeWords.{ThresholdModeWords}
use Rattle.reals.specs.declared.threshold.ThresholdMode.TheVariants.{Greater, Less}
use Rattle.reals.specs.declared.threshold.ThresholdMode.{ThresholdMode}

-- `ThresholdMode` as words
unfoldable pub threshold_mode_words : ThresholdMode → ThresholdModeWords
threshold_mode_words Greater = record { variant = 0 }
threshold_mode_words Less = record { variant = 1 }

-- the `ThresholdMode` that words stand for; a number that no variant has is read as `Less`
unfoldable pub threshold_mode_of : ThresholdModeWords → ThresholdMode
threshold_mode_of w = cond (eqb w.variant 0) Greater Less
