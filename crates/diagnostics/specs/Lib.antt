-- The diagnostics, in reading order: one tally, what is to be said of the tally of many points, the walk over a grid, what a grid yields point by point, the whole with its tests.
pub mod Tally
pub mod Recorded
pub mod Walk
pub mod OnGrid
pub mod Diagnostics
