pub mod Windows
pub mod Queries
