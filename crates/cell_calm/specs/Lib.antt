pub mod Calm
pub mod Healthy
pub mod Failing
