-- The theorems about a tally and about a report of `diagnose`, each in a file named after what it says; M9; and what the proofs share.
pub mod FirstSmallest
pub mod EveryPointOnce
pub mod TalliesInOrder
pub mod GapsBetweenGood
pub mod ReportTallies
pub mod FailuresInOrder
pub mod RefusalKeepsRoom
pub mod Marked
pub mod Standing
pub mod Walking
