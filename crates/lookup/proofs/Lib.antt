pub mod Walks
pub mod Asks
pub mod Tallies
