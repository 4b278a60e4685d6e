-- Economizer lines.
pub mod Econ
pub mod Sized
