pub mod Told
pub mod Held
