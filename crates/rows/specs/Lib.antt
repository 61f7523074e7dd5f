pub mod Flag
pub mod Told
pub mod Slices
pub mod Rows
pub mod Answers
