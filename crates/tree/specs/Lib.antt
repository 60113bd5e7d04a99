pub mod Sets
pub mod Tree
pub mod Laid
pub mod Lawful
pub mod Standing
pub mod Book
pub mod Example
pub mod Laws
