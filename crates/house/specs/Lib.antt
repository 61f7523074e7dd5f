pub mod File
pub mod Check
pub mod Repeats
pub mod Next
pub mod Taken
pub mod When
pub mod Encode
