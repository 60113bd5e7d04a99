pub mod Queried
pub mod Runs
