-- Relief lines.
pub mod Relief
pub mod Sized
