pub mod Cells
pub mod Followed
pub mod Inputs
pub mod Rounds
pub mod Runs
pub mod RunsFrom
pub mod Told
