pub mod Form
pub mod Fields
pub mod Causes
pub mod Checks
pub mod Laws
pub mod Adds
pub mod Words
