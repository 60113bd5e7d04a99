pub mod Spares
pub mod Growing
pub mod Putting
