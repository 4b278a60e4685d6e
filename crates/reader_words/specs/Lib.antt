-- What C holds of the row reader, as words of 8 bytes that a caller in C can hold, and what words stand for (docs/DECISIONS.md, 'In firmware'). Written by tools/words.
pub mod Kind
pub mod Phase
pub mod RowReader
