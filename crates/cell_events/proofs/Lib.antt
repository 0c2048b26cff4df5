pub mod Counts
pub mod Found
pub mod Parts
pub mod Told
pub mod Lines
