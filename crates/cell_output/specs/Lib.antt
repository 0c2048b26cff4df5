pub mod Watched
pub mod Numbers
