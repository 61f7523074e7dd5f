-- The words that the contracts of every crate use: a loop, a sum, a search, some number below another, a chain of tests, floats, and room that is written at its front.
pub mod Loop
pub mod Some
pub mod Choice
pub mod Floats
pub mod Room
