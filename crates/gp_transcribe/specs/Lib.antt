pub mod Entries
pub mod Traced
pub mod Transcribing
pub mod Outcome
pub mod Back
