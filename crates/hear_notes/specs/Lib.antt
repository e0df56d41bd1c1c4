pub mod Searches
pub mod Grants
pub mod Sendings
pub mod Sent
