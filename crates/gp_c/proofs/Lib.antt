pub mod Asked
pub mod Limits
pub mod Opening
pub mod Slots
pub mod Values
