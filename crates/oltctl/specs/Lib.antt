pub mod Joined
pub mod Opened
pub mod Replays
pub mod Statuses
pub mod Tested
