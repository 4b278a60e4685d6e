-- Freeze protection, to be read in this order: what a row is refused for, every block's output, the commands, the step; then how the past is read, and what a display shows.
pub mod Constants
pub mod Verdict
pub mod Signals
pub mod Commands
pub mod Step
pub mod Reading
pub mod Told
pub mod Left
pub mod Stages
pub mod Questions
pub mod KeptHour
