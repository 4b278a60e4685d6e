-- The facts over the constants, as decimals and as bytes, the alarm guard, alarms in a byte each, the loop of `gai`, and switches of four.
pub mod AsCoded
pub mod Bytes
pub mod Weighing
pub mod Nearest
pub mod Guard
pub mod AlarmBytes
pub mod Switches
