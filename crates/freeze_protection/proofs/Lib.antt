-- The fact over the constants' table, what each stage commands, the blocks' states as readings of the past, the theorem over whole lists, and what follows for
-- the insurer's questions.
pub mod Nearest
pub mod Stages
pub mod Blocks
pub mod Demand3
pub mod Questions
pub mod KeptHour
