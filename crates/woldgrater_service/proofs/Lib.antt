-- Laws that the proofs of the functions that are exported cite, and the theorem on calls.
pub mod Playing
pub mod Carrying
pub mod Calling
pub mod Lines
pub mod AlarmCalls
