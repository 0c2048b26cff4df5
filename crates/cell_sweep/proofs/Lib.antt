pub mod Batches
pub mod Drawing
pub mod FirstLine
pub mod Standing
pub mod Steps
