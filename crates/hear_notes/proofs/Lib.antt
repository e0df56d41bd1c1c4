pub mod Entries
pub mod Granting
pub mod About
