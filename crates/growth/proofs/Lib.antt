pub mod Puts
pub mod Takes
pub mod Laws
pub mod Kept
