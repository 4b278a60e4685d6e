-- The cases of each sequence, the one fact that covers both tables, and the sentences about single numbers.
pub mod EconomizerCases
pub mod ReliefCases
pub mod RowLinesExample
pub mod RowsWritten
pub mod Table
pub mod Corners
