-- What C holds of the joined row, as words of 8 bytes that a caller in C can hold, and what words stand for (docs/DECISIONS.md, 'In firmware'). Written by tools/words.
pub mod Rooftop
pub mod RooftopRow
pub mod RooftopCommands
