pub mod Stands
pub mod Rest
pub mod Moves
pub mod Calls
pub mod Runs
pub mod Pauses
