pub mod Names
pub mod Ends
pub mod Places
pub mod Parts
