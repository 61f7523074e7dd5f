pub mod Saying
pub mod ReadAndKept
pub mod RepeatsDoNotShow
pub mod OneOfTheForms
pub mod Examples
