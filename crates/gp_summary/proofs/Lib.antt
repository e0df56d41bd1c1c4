pub mod Joined
pub mod PortLines
pub mod LightLines
pub mod ToldCounts
pub mod Sums
