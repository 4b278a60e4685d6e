-- The definitions of `relief_fan_group`, one module for each of src/, the constants, and what is read off the past.
pub mod Constants
pub mod Verdict
pub mod Signals
pub mod Commands
pub mod Step
pub mod Lent
pub mod Reading
pub mod Told
pub mod Left
pub mod Remembered
pub mod Blocks
pub mod Alarms
