-- Relief lines (docs/ROW_FILES.md): time first, then the record's fields in order, arrays by index; the answer is the status, the mean, four speeds and
-- four dampers, or the status alone.
use Rattle.std.specs.Prelude.{ℕ, List, [], ◌∷◌, false, eqb, pos, get_or}
use Rattle.std.specs.Float.{binary64}
use Rattle.std.specs.Float.Ieee.{of_bits, to_bits}
use Rattle.columns.specs.declared.forms.Form.{Form}
use Rattle.columns.specs.declared.forms.Form.TheVariants.{Float, YesNo, Signed, Unsigned}
use Rattle.columns.specs.Word.{yes_no_word, word_signed, signed_word}
use Rattle.line_stream.specs.Lines.{Answer}
use Rattle.line_stream.specs.RowKind.{RowKind, RowLine, answer_words, row_line, line_answered}
use Rattle.row_writer.specs.Writing.{row_text}
use Rattle.relief_fan_group.specs.declared.types.ReliefRow.{ReliefRow}
use Rattle.relief_fan_group.specs.declared.types.ReliefState.{ReliefState}
use Rattle.relief_fan_group.specs.declared.types.ReliefCommands.{ReliefCommands}
use Rattle.relief_fan_group.specs.Verdict.{numbers_finite}
use Rattle.relief_fan_group.specs.Step.{ReliefAnswer, relief_row}

-- ---- a row

-- its columns: the form of each, and the field that it holds
abbrev pub relief_row_forms : List Form
relief_row_forms =
    Float  -- time
    ∷ YesNo  -- supply 1
    ∷ YesNo  -- supply 2
    ∷ Float  -- pressure
    ∷ Signed  -- alarm 1
    ∷ Signed  -- alarm 2
    ∷ Signed  -- alarm 3
    ∷ Signed  -- alarm 4
    ∷ YesNo  -- proof 1
    ∷ YesNo  -- proof 2
    ∷ YesNo  -- proof 3
    ∷ YesNo  -- proof 4
    ∷ []

-- the row of their words
unfoldable pub relief_row_of : List ℕ → ReliefRow
relief_row_of words = record {
  time = of_bits binary64 (get_or words 0 0);
  supply = eqb (get_or words 1 0) 1 ∷ eqb (get_or words 2 0) 1 ∷ [];
  pressure = of_bits binary64 (get_or words 3 0);
  alarm = word_signed (get_or words 4 0) ∷ word_signed (get_or words 5 0) ∷ word_signed (get_or words 6 0) ∷ word_signed (get_or words 7 0) ∷ [];
  proof = eqb (get_or words 8 0) 1 ∷ eqb (get_or words 9 0) 1 ∷ eqb (get_or words 10 0) 1 ∷ eqb (get_or words 11 0) 1 ∷ [];
}

-- the words of a row
unfoldable pub relief_row_words : ReliefRow → List ℕ
relief_row_words row =
    to_bits binary64 row.time
    ∷ yes_no_word (get_or row.supply 0 false)
    ∷ yes_no_word (get_or row.supply 1 false)
    ∷ to_bits binary64 row.pressure
    ∷ signed_word (get_or row.alarm 0 (pos 0))
    ∷ signed_word (get_or row.alarm 1 (pos 0))
    ∷ signed_word (get_or row.alarm 2 (pos 0))
    ∷ signed_word (get_or row.alarm 3 (pos 0))
    ∷ yes_no_word (get_or row.proof 0 false)
    ∷ yes_no_word (get_or row.proof 1 false)
    ∷ yes_no_word (get_or row.proof 2 false)
    ∷ yes_no_word (get_or row.proof 3 false)
    ∷ []

-- ---- an answer

-- its columns
abbrev pub relief_answer_forms : List Form
relief_answer_forms =
    Unsigned  -- status
    ∷ Float  -- averaged_pressure
    ∷ Float  -- fan_speed_1
    ∷ Float  -- fan_speed_2
    ∷ Float  -- fan_speed_3
    ∷ Float  -- fan_speed_4
    ∷ Float  -- damper_1
    ∷ Float  -- damper_2
    ∷ Float  -- damper_3
    ∷ Float  -- damper_4
    ∷ []

-- the words of an accepted row's: status 0, and the commands
unfoldable pub relief_command_words : ReliefCommands → List ℕ
relief_command_words commands =
    0
    ∷ to_bits binary64 commands.averaged_pressure
    ∷ to_bits binary64 commands.fan_speed_1
    ∷ to_bits binary64 commands.fan_speed_2
    ∷ to_bits binary64 commands.fan_speed_3
    ∷ to_bits binary64 commands.fan_speed_4
    ∷ to_bits binary64 commands.damper_1
    ∷ to_bits binary64 commands.damper_2
    ∷ to_bits binary64 commands.damper_3
    ∷ to_bits binary64 commands.damper_4
    ∷ []

-- ---- the kind

abbrev pub relief_kind : RowKind ReliefState ReliefRow ReliefCommands
relief_kind = record {
  row_forms = relief_row_forms;
  row_of = relief_row_of;
  row_words = relief_row_words;
  finite = numbers_finite;
  next = λ state row. (relief_row state row).state;
  answer = λ state row. (relief_row state row).answer;
  answer_forms = relief_answer_forms;
  command_words = relief_command_words;
}

-- the words of an answer: status 0 and the commands, or the number of a refusal alone
abbrev pub relief_answer_words : ReliefAnswer → List ℕ
relief_answer_words = answer_words relief_kind

-- the row of a line, and the line of a row with its newline
abbrev pub relief_line : List ℕ → RowLine ReliefRow
relief_line = row_line relief_kind

abbrev pub relief_row_text : ReliefRow → List ℕ
relief_row_text = row_text relief_kind

-- a line answered: the row's answer and the next state
abbrev pub relief_answered : ReliefState → List ℕ → Answer ReliefState
relief_answered = line_answered relief_kind
