pub mod Allocs
pub mod Entries
pub mod Losing
pub mod PortLines
