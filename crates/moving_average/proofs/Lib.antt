-- The laws that the proofs cite, and the facts about the definitions.
pub mod Lists
pub mod Loops
pub mod Points
pub mod Held
pub mod Descending
pub mod Accepted
pub mod Reading
pub mod SameTime
pub mod Constants
pub mod FirstRows
pub mod HalfRows
