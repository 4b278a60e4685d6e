-- What a relief row tells: its refusal, or the mean and both pulses that its commands are worked from. The theorem of proofs/Demand3.antt is about a run of these.
use Rattle.std.specs.Prelude.{Float, Ok, Err}
use Rattle.past.specs.Whole.{Told, NotTaken, Taken}
use Rattle.relief_fan_group.specs.declared.types.ReliefRow.{ReliefRow}
use Rattle.relief_fan_group.specs.declared.types.ReliefState.{ReliefState}
use Rattle.relief_fan_group.specs.declared.types.ReliefSignals.{ReliefSignals}
use Rattle.relief_fan_group.specs.Step.{ReliefAnswer}
use Rattle.relief_fan_group.specs.Reading.{ReliefReading}
use Rattle.relief_fan_group.specs.Step.{signals_at, relief_row}

-- a mean, and both pulses as they stand in a row's signals
abbrev pub pulses_in : Float → ReliefSignals → ReliefReading
pulses_in mean signals = record { mean = mean; up = signals.up.up_tim.passed; down = signals.down.dow_tim.passed }

-- of an answer, the refusal, or the mean among its commands beside the pulses among the signals
abbrev pub pulses_told : ReliefAnswer → ReliefSignals → Told ReliefReading
pulses_told (Ok c) signals = Taken (pulses_in c.averaged_pressure signals)
pulses_told (Err r) signals = NotTaken r

-- of a row handed to a state: what its answer tells, with the signals that the answer's commands are worked from, and the state that it returns
abbrev pub relief_told : ReliefState → ReliefRow → Told ReliefReading
relief_told state row = pulses_told (relief_row state row).answer (signals_at state row)

abbrev pub relief_returned : ReliefState → ReliefRow → ReliefState
relief_returned state row = (relief_row state row).state
