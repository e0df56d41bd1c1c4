pub mod Hearing
pub mod Codes
pub mod Lights
pub mod Explaining
pub mod Verifying
pub mod Driving
