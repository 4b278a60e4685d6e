-- The laws of a stream of lines: any cutting into chunks, and the turns of a loop over a chunk.
pub mod Cutting
pub mod Turns
pub mod Keeping
pub mod Feeding
pub mod RowKinds
