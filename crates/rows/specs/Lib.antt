-- When the program reads no more.
pub mod Turns
