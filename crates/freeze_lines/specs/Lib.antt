-- Freeze lines.
pub mod Freeze
pub mod Sized
