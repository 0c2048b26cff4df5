pub mod Commanded
pub mod Deeds
pub mod Drives
pub mod Ends
pub mod Gauged
pub mod Measured
pub mod Raw
pub mod Wishes
