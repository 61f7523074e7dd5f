pub mod Entry
pub mod When
pub mod Sized
