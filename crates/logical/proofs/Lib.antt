-- The laws that tell blocks of like names apart, those of the elapsed time that three timers share, and the two manners of the hour's timer.
pub mod Differ
pub mod Elapsed
pub mod Manners
