-- A stream of bytes as lines, each answered from a state; and the lines of a kind of rows.
pub mod Lines
pub mod RowKind
