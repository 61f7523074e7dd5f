-- A surface, in reading order: the run of records and its tests, the lookup of a tau, the axes of a grid, the answers, the last node and the first.
pub mod Runs
pub mod Lookup
pub mod Axis
pub mod Surface
pub mod Last
pub mod First
pub mod Inner
