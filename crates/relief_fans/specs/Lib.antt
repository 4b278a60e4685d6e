-- The definitions of `relief_fans`, one module for each of src/, and the constants.
pub mod Constants
pub mod Table
pub mod Flags
pub mod Orders
pub mod Blocks
pub mod Commands
pub mod Alarms
