pub mod Reached
pub mod Loading
