pub mod Chains
pub mod Widening
pub mod Splits
pub mod Here
pub mod Besides
pub mod Ups
pub mod Insertions
pub mod Roots
