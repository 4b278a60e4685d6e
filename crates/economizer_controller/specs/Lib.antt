-- The economizer, to be read in this order: what a row is refused for, the three passes, the step; then how the past is read.
pub mod Constants
pub mod Integers
pub mod Verdict
pub mod DamperLimits
pub mod Enable
pub mod Relief
pub mod Step
pub mod Reading
pub mod Told
