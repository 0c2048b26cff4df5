pub mod Orders
pub mod Rank
pub mod Due
