pub mod Placing
pub mod Motifs
pub mod Laws
