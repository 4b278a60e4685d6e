-- The theorems over any kind of rows.
pub mod RowsBack
pub mod Files
