-- A slice's tests come first; M6 of the marked examples.
pub mod TestsFirst
pub mod Marked
