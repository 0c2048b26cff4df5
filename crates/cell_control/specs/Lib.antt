pub mod Controlling
pub mod Scripts
