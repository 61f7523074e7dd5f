pub mod Known
pub mod Conditions
pub mod WeightsOfTheFit
