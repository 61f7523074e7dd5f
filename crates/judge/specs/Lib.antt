pub mod Judge
pub mod When
