pub mod Splitting
pub mod Holding
pub mod LineFacts
