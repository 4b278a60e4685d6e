-- Freeze protection's lines (docs/ROW_FILES.md): time first, then the record's fields in order; the answer is the status and the outputs in the order of
-- the Rust trace, or the status alone.
use Rattle.std.specs.Prelude.{ℕ, List, [], ◌∷◌, eqb, get_or}
use Rattle.std.specs.Float.{binary64}
use Rattle.std.specs.Float.Ieee.{of_bits, to_bits}
use Rattle.columns.specs.declared.forms.Form.{Form}
use Rattle.columns.specs.declared.forms.Form.TheVariants.{Float, YesNo, Unsigned}
use Rattle.columns.specs.Word.{yes_no_word}
use Rattle.line_stream.specs.Lines.{Answer}
use Rattle.line_stream.specs.RowKind.{RowKind, RowLine, answer_words, row_line, line_answered}
use Rattle.row_writer.specs.Writing.{row_text}
use Rattle.freeze_protection.specs.declared.types.FreezeRow.{FreezeRow}
use Rattle.freeze_protection.specs.declared.types.FreezeState.{FreezeState}
use Rattle.freeze_protection.specs.declared.types.FreezeCommands.{FreezeCommands}
use Rattle.freeze_protection.specs.Verdict.{numbers_finite}
use Rattle.freeze_protection.specs.Step.{FreezeAnswer, freeze_row}

-- ---- a row

-- its columns: the form of each, and the field that it holds
abbrev pub freeze_row_forms : List Form
freeze_row_forms =
    Float  -- time
    ∷ Float  -- outdoor_damper_min_position
    ∷ Float  -- outdoor_damper
    ∷ Float  -- heating_coil
    ∷ Float  -- minimum_outdoor_damper
    ∷ Float  -- return_damper
    ∷ Float  -- supply_air_temperature
    ∷ YesNo  -- software_reset
    ∷ YesNo  -- supply_fan_status
    ∷ Float  -- supply_fan_speed
    ∷ Float  -- cooling_coil
    ∷ Float  -- mixed_air_temperature
    ∷ []

-- the row of their words
unfoldable pub freeze_row_of : List ℕ → FreezeRow
freeze_row_of words = record {
  time = of_bits binary64 (get_or words 0 0);
  outdoor_damper_min_position = of_bits binary64 (get_or words 1 0);
  outdoor_damper = of_bits binary64 (get_or words 2 0);
  heating_coil = of_bits binary64 (get_or words 3 0);
  minimum_outdoor_damper = of_bits binary64 (get_or words 4 0);
  return_damper = of_bits binary64 (get_or words 5 0);
  supply_air_temperature = of_bits binary64 (get_or words 6 0);
  software_reset = eqb (get_or words 7 0) 1;
  supply_fan_status = eqb (get_or words 8 0) 1;
  supply_fan_speed = of_bits binary64 (get_or words 9 0);
  cooling_coil = of_bits binary64 (get_or words 10 0);
  mixed_air_temperature = of_bits binary64 (get_or words 11 0);
}

-- the words of a row
unfoldable pub freeze_row_words : FreezeRow → List ℕ
freeze_row_words row =
    to_bits binary64 row.time
    ∷ to_bits binary64 row.outdoor_damper_min_position
    ∷ to_bits binary64 row.outdoor_damper
    ∷ to_bits binary64 row.heating_coil
    ∷ to_bits binary64 row.minimum_outdoor_damper
    ∷ to_bits binary64 row.return_damper
    ∷ to_bits binary64 row.supply_air_temperature
    ∷ yes_no_word row.software_reset
    ∷ yes_no_word row.supply_fan_status
    ∷ to_bits binary64 row.supply_fan_speed
    ∷ to_bits binary64 row.cooling_coil
    ∷ to_bits binary64 row.mixed_air_temperature
    ∷ []

-- ---- an answer

-- its columns
abbrev pub freeze_answer_forms : List Form
freeze_answer_forms =
    Unsigned  -- status
    ∷ Unsigned  -- freeze_protection_stage
    ∷ YesNo  -- chilled_water_pump_enable
    ∷ Float  -- return_damper_command
    ∷ Float  -- outdoor_damper_command
    ∷ Float  -- minimum_outdoor_damper_command
    ∷ YesNo  -- supply_fan_status
    ∷ Float  -- supply_fan_speed
    ∷ Float  -- cooling_coil_command
    ∷ Float  -- heating_coil_command
    ∷ Unsigned  -- hot_water_plant_request
    ∷ Unsigned  -- alarm_level
    ∷ []

-- the words of an accepted row's: status 0, and the commands
unfoldable pub freeze_command_words : FreezeCommands → List ℕ
freeze_command_words commands =
    0
    ∷ commands.freeze_protection_stage
    ∷ yes_no_word commands.chilled_water_pump_enable
    ∷ to_bits binary64 commands.return_damper_command
    ∷ to_bits binary64 commands.outdoor_damper_command
    ∷ to_bits binary64 commands.minimum_outdoor_damper_command
    ∷ yes_no_word commands.supply_fan_status
    ∷ to_bits binary64 commands.supply_fan_speed
    ∷ to_bits binary64 commands.cooling_coil_command
    ∷ to_bits binary64 commands.heating_coil_command
    ∷ commands.hot_water_plant_request
    ∷ commands.alarm_level
    ∷ []

-- ---- the kind

abbrev pub freeze_kind : RowKind FreezeState FreezeRow FreezeCommands
freeze_kind = record {
  row_forms = freeze_row_forms;
  row_of = freeze_row_of;
  row_words = freeze_row_words;
  finite = numbers_finite;
  next = λ state row. (freeze_row state row).state;
  answer = λ state row. (freeze_row state row).answer;
  answer_forms = freeze_answer_forms;
  command_words = freeze_command_words;
}

-- the words of an answer: status 0 and the commands, or the number of a refusal alone
abbrev pub freeze_answer_words : FreezeAnswer → List ℕ
freeze_answer_words = answer_words freeze_kind

-- the row of a line, and the line of a row with its newline
abbrev pub freeze_line : List ℕ → RowLine FreezeRow
freeze_line = row_line freeze_kind

abbrev pub freeze_row_text : FreezeRow → List ℕ
freeze_row_text = row_text freeze_kind

-- a line answered: the row's answer and the next state
abbrev pub freeze_answered : FreezeState → List ℕ → Answer FreezeState
freeze_answered = line_answered freeze_kind
