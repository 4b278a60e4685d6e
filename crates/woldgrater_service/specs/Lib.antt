-- What the functions that are exported cite.
pub mod Line
pub mod Shown
pub mod Play
pub mod Chunks
