-- The fact over the constants; the pulse, the state as a function of the past, what a sequence with this window has, and the theorem over whole lists; the alarms, and what is remembered of them; the window's length; the
-- speeds with both supply fans off, over every list of rows from a fresh start, and from every state by its mean.
pub mod Nearest
pub mod Pulses
pub mod Blocks
pub mod Windowed
pub mod Demand3
pub mod Alarms
pub mod LastAlarms
pub mod Sized
pub mod Fours
pub mod SupplyOff
pub mod SupplyOffMean
