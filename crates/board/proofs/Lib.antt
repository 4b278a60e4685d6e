-- The lines and the board as the code holds them; whose turn it is; what a command does to one unit; the theorems over any units; lines of things that stand for rows; the
-- theorems for rooftop units; two runs computed.
pub mod Places
pub mod Steps
pub mod Turns
pub mod Effects
pub mod Rounds
pub mod Mapped
pub mod Rooftops
pub mod Examples
