pub mod Heard
pub mod Changes
pub mod Places
pub mod Answers
pub mod Owners
pub mod Tables
pub mod Index
pub mod Kept
