pub mod Heads
pub mod Nodes
pub mod Reaching
pub mod Choosing
pub mod Writes
pub mod Refusing
