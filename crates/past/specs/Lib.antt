-- The words in which the past is read with no state.
pub mod Past
pub mod Runs
pub mod Turns
pub mod Stepped
pub mod Whole
pub mod Acceptance
