pub mod Rows
pub mod Twins
