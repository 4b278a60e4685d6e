-- An accepted joined row at each sequence's own entry; three runs side by side; what they were handed, read off the joined rows' own fields; demand 3; what stages 3 and 2
-- command; when the economizer learns of a stage.
pub mod OwnEntries
pub mod SideBySide
pub mod OwnFields
pub mod Demand3
pub mod Stages
pub mod StageSeen
