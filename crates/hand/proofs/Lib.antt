pub mod Sixteen
pub mod Steps
pub mod Reading
pub mod Entries
