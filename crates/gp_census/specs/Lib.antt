pub mod Counts
pub mod Census
pub mod Kept
pub mod Told
pub mod Text
