-- The refusals that all sequences share, and what a row gives by its verdict.
pub mod Refusals
pub mod Step
