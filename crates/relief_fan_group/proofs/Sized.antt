-- A row leaves the window's arrays their length, refused or not. Assumes nothing.
use Rattle.std.specs.Prelude.{Ok, Err}
use Rattle.refusals.specs.Refusals.{Verdict}
use Rattle.moving_average.specs.State.{moving_average_is_full}
use Rattle.moving_average.proofs.Held.{Sized, update_sized}
use Rattle.relief_fan_group.specs.declared.types.ReliefRow.{ReliefRow}
use Rattle.relief_fan_group.specs.declared.types.ReliefState.{ReliefState}
use Rattle.relief_fan_group.specs.Verdict.{relief_verdict}
use Rattle.relief_fan_group.specs.Step.{step_by, relief_row}

step_sized : (v : Verdict) (state : ReliefState) (row : ReliefRow) → Sized state.window → Sized (step_by v state row).state.window
unfolding step_by
step_sized (Ok tt) state row s = update_sized state.window row.time row.pressure s
step_sized (Err refusal) state row s = s

pub row_sized : (state : ReliefState) (row : ReliefRow) → Sized state.window → Sized (relief_row state row).state.window
unfolding relief_row
row_sized state row s = step_sized (relief_verdict state.blocks row (moving_average_is_full state.window row.time)) state row s
