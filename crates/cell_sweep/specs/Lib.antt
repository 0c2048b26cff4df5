pub mod Batches
pub mod Cases
pub mod Drawn
pub mod Kinds
pub mod Rows
pub mod Sweeps
