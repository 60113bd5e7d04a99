pub mod Shogs
