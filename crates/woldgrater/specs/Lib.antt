-- What a caller gets, a call a row.
pub mod Answered
pub mod Memory
pub mod Freeze
pub mod Economizer
pub mod Relief
pub mod Rooftop
pub mod Units
pub mod BoardCalls
