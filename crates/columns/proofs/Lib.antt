-- The laws that the proofs cite: a column scanned byte by byte, reading and writing as inverses, and texts written one after another.
pub mod Scanning
pub mod Inverse
pub mod Ways
pub mod Bytes
pub mod Digits
pub mod Lanes
pub mod Writing
pub mod Words
pub mod Values
pub mod Tables
pub mod Loops
pub mod Lines
pub mod Plain
