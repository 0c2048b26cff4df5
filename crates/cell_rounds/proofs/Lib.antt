pub mod Moving
pub mod Pausing
pub mod Scripts
pub mod Turns
pub mod Operating
pub mod Hearing
pub mod Mapping
