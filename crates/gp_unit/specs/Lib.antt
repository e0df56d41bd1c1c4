pub mod Rows
pub mod Sound
pub mod Records
pub mod Units
