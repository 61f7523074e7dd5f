pub mod Orders
pub mod Marked
