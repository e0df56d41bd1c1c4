pub mod Words
pub mod Runs
pub mod Telling
pub mod Explaining
pub mod Outcome
