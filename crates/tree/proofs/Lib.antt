pub mod Halves
pub mod Trees
pub mod Counts
pub mod Standings
pub mod Laws
pub mod Examples
