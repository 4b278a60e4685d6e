-- The joined sequence, to be read in this order: each sequence's row, what a joined row is refused for, the step; then how the past is read.
pub mod Wiring
pub mod Verdict
pub mod Step
pub mod Lent
pub mod Reading
pub mod SideBySide
pub mod Told
pub mod Stages
pub mod StageSeen
