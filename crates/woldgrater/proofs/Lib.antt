-- Laws that the proofs of the functions that are exported cite, and the theorem on calls one after another.
pub mod AnswerCalls
pub mod WindowCalls
pub mod Calls
pub mod RooftopCalls
pub mod BoardCalls
pub mod ByBoardCalls
