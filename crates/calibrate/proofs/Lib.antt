pub mod Deciding
pub mod Quads
pub mod Listing
pub mod Contract
pub mod Checked
pub mod EachNumber
