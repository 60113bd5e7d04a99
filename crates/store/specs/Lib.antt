pub mod Calls
pub mod Copies
pub mod Counters
pub mod Rows
pub mod Stores
pub mod Twins
pub mod Words
