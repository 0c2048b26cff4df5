pub mod Finding
pub mod Telling
