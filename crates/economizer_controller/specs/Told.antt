-- What an economizer row tells: its refusal, or enable and both delays that its commands are worked from. The theorem of proofs/Demand3.antt is about a run of
-- these.
use Rattle.std.specs.Prelude.{Ok, Err}
use Rattle.past.specs.Whole.{Told, NotTaken, Taken, told_by}
use Rattle.economizer_controller.specs.declared.types.EconomizerRow.{EconomizerRow}
use Rattle.economizer_controller.specs.declared.types.EconomizerState.{EconomizerState}
use Rattle.economizer_controller.specs.declared.types.EconomizerSignals.{EconomizerSignals}
use Rattle.economizer_controller.specs.Step.{EconomizerAnswer}
use Rattle.economizer_controller.specs.Verdict.{economizer_verdict}
use Rattle.economizer_controller.specs.Step.{economizer_signals, economizer_commands, economizer_row}
use Rattle.economizer_controller.specs.Reading.{EconomizerReading}

-- a row's refusal, or the signals that its commands are worked from
unfoldable pub economizer_worked : EconomizerState → EconomizerRow → Told EconomizerSignals
economizer_worked state row = told_by (economizer_verdict state row) (economizer_signals state row)

-- the answer that these make; `economizer_answer` of proofs/Demand3.antt: it is the answer of `economizer_row`
abbrev pub answer_from : EconomizerRow → Told EconomizerSignals → EconomizerAnswer
answer_from row (NotTaken refusal) = Err refusal
answer_from row (Taken signals) = Ok (economizer_commands row signals)

-- enable and delays as they stand in a row's signals
abbrev pub reading_in : EconomizerSignals → EconomizerReading
reading_in signals = record { enabled = signals.enable.enabled; outdoor_delayed = signals.enable.outdoor_delay_done; return_delayed = signals.enable.return_delay_done }

-- what these tell
abbrev pub reading_from : Told EconomizerSignals → Told EconomizerReading
reading_from (NotTaken refusal) = NotTaken refusal
reading_from (Taken signals) = Taken (reading_in signals)

-- of a row handed to a state: what it tells, and the state that it returns
abbrev pub economizer_told : EconomizerState → EconomizerRow → Told EconomizerReading
economizer_told state row = reading_from (economizer_worked state row)

abbrev pub economizer_returned : EconomizerState → EconomizerRow → EconomizerState
economizer_returned state row = (economizer_row state row).state
