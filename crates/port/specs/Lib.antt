pub mod Abi
pub mod FitRows
