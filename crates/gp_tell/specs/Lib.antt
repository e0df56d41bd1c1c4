pub mod Ending
pub mod Octets
pub mod Teller
