pub mod Calls
pub mod Tabled
pub mod Windows
pub mod Guards
