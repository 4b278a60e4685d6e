-- What C holds of the economizer, as words of 8 bytes that a caller in C can hold, and what words stand for (docs/DECISIONS.md, 'In firmware'). Written by tools/words.
pub mod Enable
pub mod Economizer
pub mod EconomizerRow
pub mod EconomizerCommands
pub mod DamperLimits
pub mod EnableSignals
pub mod EnableLimits
pub mod EconomizerSignals
