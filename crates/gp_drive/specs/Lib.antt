pub mod Turns
pub mod Shown
pub mod Drive
pub mod Outcome
pub mod Runs
