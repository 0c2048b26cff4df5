pub mod Held
pub mod Counts
pub mod New
