pub mod Windows
pub mod Pages
pub mod Walking
pub mod Listing
pub mod Picking
pub mod Answering
pub mod Wholes
