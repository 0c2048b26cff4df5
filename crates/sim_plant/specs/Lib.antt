pub mod Answers
pub mod Faultless
