pub mod Bytes
pub mod Kind
pub mod Numbers
pub mod Lay
pub mod Bar
pub mod Edges
pub mod LaySound
pub mod BarSound
