pub mod Byteform
pub mod Telling
