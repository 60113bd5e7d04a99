pub mod Records
pub mod Outlining
