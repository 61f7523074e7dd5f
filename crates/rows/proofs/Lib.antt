-- Rows read back, and policies by their numbers.
pub mod RowsReadBack
pub mod PolicyNumbers
pub mod Flags
