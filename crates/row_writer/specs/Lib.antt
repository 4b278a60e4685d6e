-- What a kind of rows leaves of the window, and rows written as lines.
pub mod Lines
pub mod Writing
