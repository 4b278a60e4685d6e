-- The example of 'Row lines', computed. Assumes nothing.
use Rattle.std.specs.Prelude.{Ok}
use mathlib.Core.Path.{◌≡◌, refl}
use mathlib.Core.Bool.{true, false}
use mathlib.Core.List.{[], ◌∷◌}
use lib.IntN.{pos}
use lib.Ieee.{binary64, le, sub, mul, div, is_nan, round, of_bits, to_bits}
use Rattle.reals.specs.Order.{greater, lesser}
use Rattle.reals.specs.Limits.{clamp}
use Rattle.reals.specs.Line.{buildings_line}
use Rattle.reals.specs.Seen.{seen_above}
use Rattle.reals.specs.Sign.{is_sign_negative}
use Rattle.reals.specs.Switch.{switch}
use Rattle.reals.specs.Hysteresis.{hysteresis_new, hysteresis_output}
use Rattle.reals.specs.Pid.{pid_unlimited, pid_with_reset_new, pid_with_reset_output}
use Rattle.logical.specs.TrueFalseHold.{true_false_hold_new, true_false_hold_output_and_timer, true_false_hold_output}
use Rattle.logical.specs.TrueDelay.{true_delay_new, true_delay_output}
use Rattle.refusals.specs.Refusals.{judge}
use Rattle.reals.specs.Constants.{plus_zero, one}
use Rattle.economizer_controller.specs.declared.types.EconomizerRow.{EconomizerRow}
use Rattle.economizer_controller.specs.declared.types.EconomizerCommands.{EconomizerCommands}
use Rattle.economizer_controller.specs.Integers.{integers_equal}
use Rattle.economizer_controller.specs.Verdict.{numbers_finite, economizer_verdict}
use Rattle.economizer_controller.specs.DamperLimits.{minimum_outdoor_air_loop_enabled, damper_limits}
use Rattle.economizer_controller.specs.Enable.{enable_new, enable_output, enable_limits}
use Rattle.economizer_controller.specs.Relief.{relief_modulation}
use Rattle.economizer_controller.specs.Step.{economizer_fresh, economizer_signals, economizer_commands, step_by, economizer_row}
use Rattle.columns.specs.Scan.{digit, decimal}
use Rattle.columns.specs.Column.{column}
use Rattle.columns.specs.Forms.{is_word, word_column, read_word, columns_good, well_formed, words_of, line_of}
use Rattle.columns.specs.Word.{word_signed}
use Rattle.columns.specs.Line.{words_line}
use Rattle.line_stream.specs.Lines.{lines_after, rest_after, answers, feed}
use Rattle.line_stream.specs.Lines as Lines
use Rattle.line_stream.specs.RowKind.{Row, row_line, read_answered, line_answered}
use Rattle.row_kinds.specs.declared.kind.Kind.TheVariants.{Econ}
use Rattle.row_kinds.specs.declared.kind.Phase.TheVariants.{Rows}
use Rattle.row_kinds.specs.Kind.{phase_after}
use Rattle.row_kinds.specs.Reader.{reader_line, reader_output}
use Rattle.row_kinds.specs.Rows.{rows_output}
use Rattle.econ_lines.specs.Econ.{econ_row_of, econ_answer_forms, econ_command_words, econ_answer_words, econ_line, econ_answered}
use Rattle.cases.specs.RowLines.{bytes_of, first_text, row_text, answer_text, input_bytes, output_bytes}

-- the input's lines, and nothing after them
lines_are : lines_after [] input_bytes ≡ first_text ∷ row_text ∷ []
unfolding input_bytes first_text row_text bytes_of lines_after
lines_are = refl

rest_is : rest_after [] input_bytes ≡ []
unfolding input_bytes first_text row_text bytes_of rest_after
rest_is = refl

-- the first line names the kind
kind_is : phase_after first_text ≡ Rows Econ
unfolding phase_after first_text bytes_of
kind_is = refl

-- the row that the line is read as, and its commands
unfoldable pub row : EconomizerRow
row = record {
  time = plus_zero;
  outdoor_airflow_normalized = plus_zero;
  minimum_outdoor_airflow_setpoint_normalized = plus_zero;
  supply_temperature_signal = plus_zero;
  outdoor_air_temperature = round binary64 false 256 1;
  supply_fan_status = true;
  operation_mode = pos 1;
  freeze_protection_stage = pos 0;
}

row_is : econ_line row_text ≡ Row row
unfolding row row_line econ_row_of row_text bytes_of digit decimal column well_formed columns_good words_of is_word word_column read_word word_signed round of_bits
row_is = refl

commands : EconomizerCommands
commands = record { outdoor_damper_min_limit = plus_zero; minimum_outdoor_air_loop_enabled = true; outdoor_damper_command = plus_zero; return_damper_command = one }

answer_is : (economizer_row economizer_fresh row).answer ≡ Ok commands
unfolding row commands economizer_row step_by economizer_verdict judge numbers_finite is_sign_negative seen_above economizer_fresh economizer_signals economizer_commands minimum_outdoor_air_loop_enabled damper_limits enable_new enable_output enable_limits relief_modulation hysteresis_new hysteresis_output pid_unlimited pid_with_reset_new pid_with_reset_output true_false_hold_new true_false_hold_output_and_timer true_false_hold_output true_delay_new true_delay_output integers_equal switch buildings_line clamp greater lesser is_nan le sub mul div of_bits
answer_is = refl

-- the line of the commands
line_is : words_line econ_answer_forms (econ_answer_words (Ok commands)) ≡ output_bytes
unfolding words_line econ_command_words commands output_bytes answer_text bytes_of line_of word_column column to_bits of_bits
line_is = refl

said_is : (econ_answered economizer_fresh row_text).said ≡ output_bytes
unfolding line_answered read_answered
said_is = rw (row_is, answer_is) line_is

pub example_is_written : rows_output input_bytes ≡ output_bytes
unfolding reader_output Lines.output feed answers reader_line
example_is_written = rw (lines_are, rest_is, kind_is, said_is) (unfold output_bytes answer_text bytes_of in refl)
