-- The laws that the proofs cite.
pub mod Words
pub mod Reading
pub mod Sequences
pub mod RowLines
