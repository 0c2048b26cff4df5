pub mod Keys
pub mod Settings
pub mod Checked
