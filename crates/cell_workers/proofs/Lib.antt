pub mod Traces
pub mod Endings
pub mod Backing
pub mod Standing
pub mod Workers
pub mod Operators
pub mod Reports
