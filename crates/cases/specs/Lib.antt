-- The proved cases: the rows that they speak of, and the table; and a table for the start in which stage 2 keeps to its hour.
pub mod Words
pub mod Freeze
pub mod Relief
pub mod Economizer
pub mod RowLines
pub mod RowsWritten
pub mod Cases
pub mod KeptHour
