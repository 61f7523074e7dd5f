pub mod Files
pub mod Repeating
pub mod Columns
pub mod Taking
pub mod Once
pub mod ReadBack
pub mod OnceRead
pub mod SettingsInOrder
