-- The stage latches and the fans commanded on, read off the past with nothing stepped: ReliefFanGroup.mo's lat2, lat1 and logSwi.
use Rattle.std.specs.Prelude.{ℕ, Bool, false, not, cond, List, [], ◌∷◌}
use Rattle.std.specs.Bool.{beq}
use Rattle.reals.specs.Four.{flag, each4}
use Rattle.past.specs.Past.{every, latched}
use Rattle.past.specs.Runs.{running}
use Rattle.past.specs.Whole.{accepted}
use Rattle.relief_fan_group.specs.declared.types.ReliefRow.{ReliefRow}
use Rattle.relief_fan_group.specs.Constants.{proof_time}
use Rattle.relief_fan_group.specs.Reading.{Past, time_of_row, up_pulse, down_pulse, verdict_of}
use Rattle.relief_answers.specs.NextFan.{fans_after_up, fans_after_down, off_after_down}

-- the accepted rows of a list of rows from a fresh start, refused ones included; both newest first
abbrev pub taken : List ReliefRow → Past
taken l = accepted verdict_of l

-- the supply flags, and the proofs, of the row here
abbrev pub supply_here : Past → List Bool
supply_here [] = []
supply_here (x ∷ h) = x.supply

abbrev pub proof_here : Past → List Bool
proof_here [] = []
proof_here (x ∷ h) = x.proof

-- the proof of fan i is on at the row here
abbrev pub proven : ℕ → Past → Bool
proven i h = flag (proof_here h) i

-- a stage up has fan i on here, and a stage down has it off; before row 0 neither does anything
abbrev pub start_wanted : ℕ → Past → Bool
start_wanted i [] = false
start_wanted i (x ∷ h) = flag (fans_after_up x.supply x.proof) i

abbrev pub stop_wanted : ℕ → Past → Bool
stop_wanted i [] = false
stop_wanted i (x ∷ h) = flag (off_after_down x.supply x.proof) i

-- it has been so for 2 s (truDel, truDel1)
abbrev pub start_due : ℕ → Past → Bool
start_due i h = running time_of_row proof_time (start_wanted i) h

abbrev pub stop_due : ℕ → Past → Bool
stop_due i h = running time_of_row proof_time (stop_wanted i) h

-- a row is settled up where each fan is proven exactly if a stage up has had it on for 2 s: that clears the stage-up latch
unfoldable pub settled_up : Past → Bool
settled_up h = every 4 (λ i. beq (start_due i h) (proven i h))

-- and settled down where each fan is unproven exactly if a stage down has had it off for 2 s: that clears the stage-down latch
unfoldable pub settled_down : Past → Bool
settled_down h = every 4 (λ i. beq (stop_due i h) (not (proven i h)))

-- the stage latches: a pulse has come, and no row from there to here, ends counted, is settled
abbrev pub up_latch : Past → Bool
up_latch h = latched up_pulse settled_up h

abbrev pub down_latch : Past → Bool
down_latch h = latched down_pulse settled_down h

-- the fans commanded on here: those of a stage up while its latch is on; else those of a stage down while its latch is on; else those that are proven
unfoldable pub fans_here : Past → List Bool
fans_here h =
    cond (up_latch h) (fans_after_up (supply_here h) (proof_here h)) (cond (down_latch h) (fans_after_down (supply_here h) (proof_here h)) (each4 (flag (proof_here h))))
