pub mod Querying
pub mod Steps
pub mod Running
pub mod Mills
pub mod Mapped
