pub mod Delay
pub mod Window
