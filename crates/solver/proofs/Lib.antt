pub mod Backed
pub mod Eliminated
pub mod NanPivot
pub mod NoCopy
pub mod Placed
pub mod Same
pub mod Segments
pub mod Solutions
pub mod Steps
mod Copies
pub mod Updates
pub mod Views
pub mod Whole
