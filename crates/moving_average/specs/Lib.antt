-- The definitions of `moving_average`: the window of points, the integral that it stores, the block, and its window read off the rows alone.
pub mod Constants
pub mod Window
pub mod Integral
pub mod State
pub mod Lent
pub mod Past
