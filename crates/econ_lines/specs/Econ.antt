-- Economizer lines (docs/ROW_FILES.md): time first, then the record's fields in order; the answer is the status and the outputs in the order of
-- `ControllerTrace`, or the status alone.
use Rattle.std.specs.Prelude.{ℕ, List, [], ◌∷◌, eqb, get_or}
use Rattle.std.specs.Float.{binary64}
use Rattle.std.specs.Float.Ieee.{of_bits, to_bits}
use Rattle.columns.specs.declared.forms.Form.{Form}
use Rattle.columns.specs.declared.forms.Form.TheVariants.{Float, YesNo, Signed, Unsigned}
use Rattle.columns.specs.Word.{yes_no_word, word_signed, signed_word}
use Rattle.line_stream.specs.Lines.{Answer}
use Rattle.line_stream.specs.RowKind.{RowKind, RowLine, answer_words, row_line, line_answered}
use Rattle.row_writer.specs.Writing.{row_text}
use Rattle.economizer_controller.specs.declared.types.EconomizerRow.{EconomizerRow}
use Rattle.economizer_controller.specs.declared.types.EconomizerState.{EconomizerState}
use Rattle.economizer_controller.specs.declared.types.EconomizerCommands.{EconomizerCommands}
use Rattle.economizer_controller.specs.Verdict.{numbers_finite}
use Rattle.economizer_controller.specs.Step.{EconomizerAnswer, economizer_row}

-- ---- a row

-- its columns: the form of each, and the field that it holds
abbrev pub econ_row_forms : List Form
econ_row_forms =
    Float  -- time
    ∷ Float  -- outdoor_airflow_normalized
    ∷ Float  -- minimum_outdoor_airflow_setpoint_normalized
    ∷ Float  -- supply_temperature_signal
    ∷ Float  -- outdoor_air_temperature
    ∷ YesNo  -- supply_fan_status
    ∷ Signed  -- operation_mode
    ∷ Signed  -- freeze_protection_stage
    ∷ []

-- the row of their words
unfoldable pub econ_row_of : List ℕ → EconomizerRow
econ_row_of words = record {
  time = of_bits binary64 (get_or words 0 0);
  outdoor_airflow_normalized = of_bits binary64 (get_or words 1 0);
  minimum_outdoor_airflow_setpoint_normalized = of_bits binary64 (get_or words 2 0);
  supply_temperature_signal = of_bits binary64 (get_or words 3 0);
  outdoor_air_temperature = of_bits binary64 (get_or words 4 0);
  supply_fan_status = eqb (get_or words 5 0) 1;
  operation_mode = word_signed (get_or words 6 0);
  freeze_protection_stage = word_signed (get_or words 7 0);
}

-- the words of a row
unfoldable pub econ_row_words : EconomizerRow → List ℕ
econ_row_words row =
    to_bits binary64 row.time
    ∷ to_bits binary64 row.outdoor_airflow_normalized
    ∷ to_bits binary64 row.minimum_outdoor_airflow_setpoint_normalized
    ∷ to_bits binary64 row.supply_temperature_signal
    ∷ to_bits binary64 row.outdoor_air_temperature
    ∷ yes_no_word row.supply_fan_status
    ∷ signed_word row.operation_mode
    ∷ signed_word row.freeze_protection_stage
    ∷ []

-- ---- an answer

-- its columns
abbrev pub econ_answer_forms : List Form
econ_answer_forms =
    Unsigned  -- status
    ∷ Float  -- outdoor_damper_min_limit
    ∷ YesNo  -- minimum_outdoor_air_loop_enabled
    ∷ Float  -- outdoor_damper_command
    ∷ Float  -- return_damper_command
    ∷ []

-- the words of an accepted row's: status 0, and the commands
unfoldable pub econ_command_words : EconomizerCommands → List ℕ
econ_command_words commands =
    0
    ∷ to_bits binary64 commands.outdoor_damper_min_limit
    ∷ yes_no_word commands.minimum_outdoor_air_loop_enabled
    ∷ to_bits binary64 commands.outdoor_damper_command
    ∷ to_bits binary64 commands.return_damper_command
    ∷ []

-- ---- the kind

abbrev pub econ_kind : RowKind EconomizerState EconomizerRow EconomizerCommands
econ_kind = record {
  row_forms = econ_row_forms;
  row_of = econ_row_of;
  row_words = econ_row_words;
  finite = numbers_finite;
  next = λ state row. (economizer_row state row).state;
  answer = λ state row. (economizer_row state row).answer;
  answer_forms = econ_answer_forms;
  command_words = econ_command_words;
}

-- the words of an answer: status 0 and the commands, or the number of a refusal alone
abbrev pub econ_answer_words : EconomizerAnswer → List ℕ
econ_answer_words = answer_words econ_kind

-- the row of a line, and the line of a row with its newline
abbrev pub econ_line : List ℕ → RowLine EconomizerRow
econ_line = row_line econ_kind

abbrev pub econ_row_text : EconomizerRow → List ℕ
econ_row_text = row_text econ_kind

-- a line answered: the row's answer and the next state
abbrev pub econ_answered : EconomizerState → List ℕ → Answer EconomizerState
econ_answered = line_answered econ_kind
