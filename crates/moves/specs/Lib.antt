pub mod Axis
pub mod Moves
