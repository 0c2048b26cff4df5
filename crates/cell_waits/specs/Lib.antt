pub mod Past
pub mod Ends
pub mod Waits
pub mod Rows
