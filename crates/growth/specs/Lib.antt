pub mod Grows
pub mod Shrinks
pub mod Laws
