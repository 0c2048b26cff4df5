pub mod Waits
pub mod Times
pub mod Schedules
pub mod Clocks
pub mod Exchange
pub mod Sums
