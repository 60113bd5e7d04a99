pub mod Walking
pub mod Answers
pub mod Listing
