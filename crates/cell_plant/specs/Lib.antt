pub mod Asked
pub mod PlantLogs
