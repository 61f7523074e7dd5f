pub mod Passes
pub mod Trail
pub mod SearchCounts
pub mod FitCells
