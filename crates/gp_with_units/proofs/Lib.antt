pub mod Heard
pub mod Units
pub mod Written
