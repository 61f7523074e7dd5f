pub mod End
pub mod When
pub mod Fit
pub mod Searched
