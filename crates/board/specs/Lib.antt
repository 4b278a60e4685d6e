-- Six units on one board, to be read in this order: the waiting lines, the board over any units, what a run of it has of one unit; then the board of rooftop units, words for its
-- runs, and two runs of a board of numbers.
pub mod Lines
pub mod Board
pub mod Unit
pub mod Rooftops
pub mod Run
pub mod Examples
