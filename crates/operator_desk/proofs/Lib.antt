pub mod Left
pub mod Fit
