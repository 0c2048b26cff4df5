pub mod Safe
pub mod Places
pub mod Order
pub mod Declaring
pub mod Carried
pub mod Profiles
pub mod Lengths
