-- The points of a data page as parts of its bytes.
pub mod Chunks
