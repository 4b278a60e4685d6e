-- The row reader: the kinds and the first line, what a whole input gives for any sequences, and that for the sequences of the three kinds.
pub mod Kind
pub mod Reader
pub mod Rows
