pub mod Appending
pub mod Names
pub mod Message
pub mod Line
pub mod Faults
pub mod LineText
pub mod Lines
