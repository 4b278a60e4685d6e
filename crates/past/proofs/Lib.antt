-- The laws that turn each word of the past into a recurrence; and for each block that a reading speaks of, that the block, stepped over a list of rows from
-- its start, gives what is read off that list. Every reading is for any type of row and any signal read off a past.
pub mod Laws
pub mod RunLaws
pub mod TurnLaws
pub mod Stepped
pub mod LevelReading
pub mod LatchReading
pub mod TimerReading
pub mod HoldReading
pub mod DelayReading
pub mod Whole
pub mod Judged
pub mod ElapsedLaws
pub mod LapseLaws
pub mod RunOnReading
pub mod Sequence
