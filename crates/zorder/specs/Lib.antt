pub mod Code
pub mod Sharing
pub mod Halves
pub mod Laws
pub mod Raising
pub mod Props
