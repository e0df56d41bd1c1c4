pub mod Alarm
pub mod Poll
