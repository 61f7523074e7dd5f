pub mod Digits
pub mod Place
pub mod Lines
pub mod Answers
