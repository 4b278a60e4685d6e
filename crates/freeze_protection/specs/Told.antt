-- What a freeze row tells: its refusal, or its stage. The theorem of proofs/Demand3.antt is about a run of these.
use Rattle.std.specs.Prelude.{ℕ, Ok, Err}
use Rattle.past.specs.Whole.{Told, NotTaken, Taken}
use Rattle.freeze_protection.specs.declared.types.FreezeRow.{FreezeRow}
use Rattle.freeze_protection.specs.declared.types.FreezeState.{FreezeState}
use Rattle.freeze_protection.specs.Step.{FreezeAnswer}
use Rattle.freeze_protection.specs.Step.{freeze_row}

-- of an answer, the refusal or the stage
abbrev pub stage_told : FreezeAnswer → Told ℕ
stage_told (Ok c) = Taken c.freeze_protection_stage
stage_told (Err r) = NotTaken r

-- of a row handed to a state: what its answer tells, and the state that it returns
abbrev pub freeze_told : FreezeState → FreezeRow → Told ℕ
freeze_told state row = stage_told (freeze_row state row).answer

abbrev pub freeze_returned : FreezeState → FreezeRow → FreezeState
freeze_returned state row = (freeze_row state row).state
