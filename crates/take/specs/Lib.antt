pub mod Shrinking
pub mod Taking
