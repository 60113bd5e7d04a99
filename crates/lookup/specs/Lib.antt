pub mod Asking
pub mod Tallying
