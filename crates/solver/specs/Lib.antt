-- What the solver's contracts cite. Rows, the way the code takes, is for inner functions alone; Copied, the way the Rust takes, for proofs/NoCopy.
pub mod Solve
pub mod Copied
pub mod Rows
