pub mod Search
pub mod Promised
pub mod Inside
pub mod Run
pub mod Roomy
pub mod Sigmas
