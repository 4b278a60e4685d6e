-- `DamperLimits` of economizer_controller as words. Written by tools/words.
use Rattle.econ_words.specs.declared.damper_limits.DamperLimitsWords.{DamperLimitsWords}
use Rattle.economizer_controller.specs.declared.types.DamperLimits.{DamperLimits}
use Rattle.reals.specs.Constants.{plus_zero}

-- `DamperLimits` as words
unfoldable pub damper_limits_words : DamperLimits → DamperLimitsWords
damper_limits_words s = record {
  outdoor_damper_min_limit = s.outdoor_damper_min_limit;
  outdoor_damper_max_limit = s.outdoor_damper_max_limit;
  return_damper_min_limit = s.return_damper_min_limit;
  return_damper_max_limit = s.return_damper_max_limit;
  return_damper_physical_max_limit = s.return_damper_physical_max_limit;
}

-- all words 0
unfoldable pub damper_limits_zero : DamperLimitsWords
damper_limits_zero = record {
  outdoor_damper_min_limit = plus_zero;
  outdoor_damper_max_limit = plus_zero;
  return_damper_min_limit = plus_zero;
  return_damper_max_limit = plus_zero;
  return_damper_physical_max_limit = plus_zero;
}
