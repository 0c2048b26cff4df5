pub mod Latest
pub mod Parts
pub mod Exchange
pub mod Least
pub mod Sums
pub mod Setting
