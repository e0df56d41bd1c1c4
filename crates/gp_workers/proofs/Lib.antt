pub mod Closings
pub mod Units
pub mod Steps
pub mod Counts
pub mod Asks
pub mod Rings
