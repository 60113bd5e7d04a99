pub mod Places
pub mod Hands
