pub mod Laws
pub mod Cells
pub mod Work
pub mod Systems
pub mod Scaling
pub mod Defaults
