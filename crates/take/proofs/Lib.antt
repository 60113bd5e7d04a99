pub mod Entries
pub mod DataPages
pub mod Chosen
pub mod Ups
pub mod Downs
pub mod Cards
