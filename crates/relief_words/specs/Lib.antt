-- What C holds of the relief fan group, as words of 8 bytes that a caller in C can hold, and what words stand for (docs/DECISIONS.md, 'In firmware'). Written by tools/words.
pub mod ReliefBlocks
pub mod Relief
pub mod ReliefRow
pub mod ReliefCommands
pub mod PressureControl
pub mod DamperEnable
pub mod StageUp
pub mod StageDown
pub mod ReliefSignals
pub mod ReliefLeft
