pub mod Settings
pub mod Observation
pub mod Answer
