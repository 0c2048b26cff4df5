pub mod Marks
pub mod Runs
pub mod Turns
pub mod Ending
pub mod EntryLines
