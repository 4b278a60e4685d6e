-- `EnableLimits` of economizer_controller as words. Written by tools/words.
use Rattle.econ_words.specs.declared.enable_limits.EnableLimitsWords.{EnableLimitsWords}
use Rattle.economizer_controller.specs.declared.types.EnableLimits.{EnableLimits}
use Rattle.reals.specs.Constants.{plus_zero}

-- `EnableLimits` as words
unfoldable pub enable_limits_words : EnableLimits → EnableLimitsWords
enable_limits_words s = record {
  outdoor_damper_max_limit = s.outdoor_damper_max_limit;
  return_damper_min_limit = s.return_damper_min_limit;
  return_damper_max_limit = s.return_damper_max_limit;
}

-- all words 0
unfoldable pub enable_limits_zero : EnableLimitsWords
enable_limits_zero = record {
  outdoor_damper_max_limit = plus_zero;
  return_damper_min_limit = plus_zero;
  return_damper_max_limit = plus_zero;
}
