-- What a passed test says; what a refusal hands on; what a search says; what is read of an array; lists of records, and M7 and M8.
pub mod Passed
pub mod Handed
pub mod Scans
pub mod Fronts
pub mod Padded
pub mod Marked
