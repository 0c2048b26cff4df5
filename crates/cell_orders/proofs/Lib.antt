mod Endings
mod Outcomes
mod Showing
pub mod Measuring
pub mod Counted
pub mod Known
mod Listing
