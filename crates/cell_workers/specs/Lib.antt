pub mod Ends
pub mod Idling
pub mod Evidence
pub mod Traces
pub mod Standing
pub mod Working
pub mod Operating
pub mod Report
