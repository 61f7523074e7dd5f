pub mod Places
pub mod Sorted
pub mod Shares
pub mod Marked
