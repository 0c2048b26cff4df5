pub mod Closing
pub mod Going
