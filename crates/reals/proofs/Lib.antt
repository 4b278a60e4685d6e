-- The laws that the proofs cite: of tests, of the order of floats, of numbers between limits and within bounds, of times, of whole numbers,
-- and of loops over four fans.
pub mod Truth
pub mod FloatOrder
pub mod Round
pub mod Between
pub mod Bounded
pub mod Times
pub mod Signs
pub mod WholeNumbers
pub mod Four
pub mod Constants
