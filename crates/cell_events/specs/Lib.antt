pub mod Places
pub mod Events
pub mod Pasts
pub mod Rows
