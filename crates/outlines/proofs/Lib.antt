pub mod Writes
pub mod Parts
pub mod Ending
pub mod Roots
