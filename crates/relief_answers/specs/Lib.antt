-- The words in which it is said whether the relief fans can miss a stage. Each is read off a row or off the past.
pub mod NextFan
pub mod Latches
pub mod Ends
pub mod Sum
pub mod Returning
pub mod Spacing
