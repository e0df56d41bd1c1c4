pub mod World
pub mod Limits
pub mod Desk
pub mod Core
