pub mod Outcomes
pub mod Fronts
pub mod Fits
pub mod Coming
pub mod OnlyMalformed
pub mod RepeatsDoNotCount
