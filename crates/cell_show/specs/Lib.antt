pub mod Chart
pub mod Shown
pub mod Rows
pub mod Refused
pub mod Waits
pub mod Window
pub mod Page
pub mod Beside
