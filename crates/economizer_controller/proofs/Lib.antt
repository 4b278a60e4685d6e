-- The constants beside their decimals; demand 3; that the outdoor damper command never exceeds its upper limit; and that every row's numbers are finite.
pub mod Constants
pub mod Demand3
pub mod OutdoorLimit
pub mod CommandsFinite
