pub mod Lines
pub mod Next
