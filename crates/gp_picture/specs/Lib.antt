pub mod Faults
pub mod Drawing
pub mod Outcome
