pub mod Standing
pub mod Text
pub mod Heard
pub mod Summary
pub mod Told
