-- A row of numbers that are easily written wrong, and its line: −0.0, the least and the greatest subnormal, the lowest float, and both
-- ends of the signed numbers.
use Rattle.std.specs.Prelude.{ℕ, List, false, pos, negsuc}
use Rattle.std.specs.Float.{binary64}
use Rattle.std.specs.Float.Ieee.{of_bits}
use Rattle.economizer_controller.specs.declared.types.EconomizerRow.{EconomizerRow}
use Rattle.cases.specs.RowLines.{bytes_of}

unfoldable pub edges : EconomizerRow
edges = record {
  time = of_bits binary64 9223372036854775808;
  outdoor_airflow_normalized = of_bits binary64 1;
  minimum_outdoor_airflow_setpoint_normalized = of_bits binary64 18442240474082181119;
  supply_temperature_signal = of_bits binary64 4503599627370495;
  outdoor_air_temperature = of_bits binary64 0;
  supply_fan_status = false;
  operation_mode = negsuc 9223372036854775807;
  freeze_protection_stage = pos 9223372036854775807;
}

unfoldable pub edges_text : List ℕ
edges_text = bytes_of "  9223372036854775808                    1 18442240474082181119     4503599627370495                    0                    0 -9223372036854775808  9223372036854775807"
