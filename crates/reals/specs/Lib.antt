-- The definitions of `reals`: a module for each piece of src/ (both hystereses in one, both loops in one), arrays of four, and the constants.
pub mod Constants
pub mod Order
pub mod Sign
pub mod Limits
pub mod Line
pub mod Switch
pub mod Four
pub mod Seen
pub mod Threshold
pub mod Hysteresis
pub mod Pid
