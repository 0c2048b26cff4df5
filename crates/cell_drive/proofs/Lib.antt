pub mod Commanding
pub mod Drove
pub mod Gauging
pub mod Measured
pub mod Raw
pub mod Telling
