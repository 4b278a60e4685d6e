-- The definitions of `logical`, one module for each of src/, and a run over a list of rows.
pub mod Edge
pub mod Latch
pub mod Pre
pub mod Timer
pub mod ElapsedTimer
pub mod HeldTimer
pub mod HourTimer
pub mod PresentTimer
pub mod TrueFalseHold
pub mod TrueDelay
pub mod TrueDelayOnInit
pub mod Run
