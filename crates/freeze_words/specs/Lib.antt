-- What C holds of freeze protection, as words of 8 bytes that a caller in C can hold, and what words stand for (docs/DECISIONS.md, 'In firmware'). Written by tools/words.
pub mod Freeze
pub mod FreezeRow
pub mod FreezeCommands
pub mod FreezeCalls
pub mod FreezeSignals
pub mod FreezeLeft
