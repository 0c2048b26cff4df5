pub mod Names
pub mod Sentences
