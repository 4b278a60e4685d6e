-- What a joined row tells: its refusal, or the stage, enable, delays, mean and pulses that its commands are worked from. The theorem of proofs/Demand3.antt is about
-- a run of these.
use Rattle.std.specs.Prelude.{Ok, Err}
use Rattle.refusals.specs.Refusals.{Verdict}
use Rattle.past.specs.Whole.{Told, NotTaken, Taken}
use Rattle.economizer_controller.specs.declared.types.EconomizerSignals.{EconomizerSignals}
use Rattle.economizer_controller.specs.Step.{economizer_signals}
use Rattle.economizer_controller.specs.Told.{reading_in}
use Rattle.relief_fan_group.specs.declared.types.ReliefSignals.{ReliefSignals}
use Rattle.relief_fan_group.specs.Step.{signals_at}
use Rattle.relief_fan_group.specs.Told.{pulses_in}
use Rattle.rooftop.specs.declared.types.RooftopRow.{RooftopRow}
use Rattle.rooftop.specs.declared.types.RooftopCommands.{RooftopCommands}
use Rattle.rooftop.specs.declared.types.RooftopState.{RooftopState}
use Rattle.rooftop.specs.Step.{economizer_handed, relief_handed, RooftopAnswer, rooftop_row}
use Rattle.rooftop.specs.Reading.{RooftopReading}

-- the answer that a verdict and commands make
abbrev pub answer_by : Verdict → RooftopCommands → RooftopAnswer
answer_by (Ok v) commands = Ok commands
answer_by (Err refusal) commands = Err refusal

-- of an answer, the refusal, or stage and mean among its commands beside what is read in the signals of the other two
abbrev pub rooftop_told_from : RooftopAnswer → EconomizerSignals → ReliefSignals → Told RooftopReading
rooftop_told_from (Ok c) economizer relief =
    Taken (record { stage = c.freeze.freeze_protection_stage; economizer = reading_in economizer; relief = pulses_in c.relief.averaged_pressure relief })
rooftop_told_from (Err r) economizer relief = NotTaken r

-- of a joined row handed to a state: what its answer tells, with the signals that the answer's commands are worked from, and the state that it returns
abbrev pub rooftop_told : RooftopState → RooftopRow → Told RooftopReading
rooftop_told state row =
    rooftop_told_from (rooftop_row state row).answer (economizer_signals state.economizer (economizer_handed state row))
    (signals_at state.relief (relief_handed state row))

abbrev pub rooftop_returned : RooftopState → RooftopRow → RooftopState
rooftop_returned state row = (rooftop_row state row).state
