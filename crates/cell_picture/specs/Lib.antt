pub mod Parts
pub mod Shown
pub mod Seen
pub mod Told
pub mod Answers
