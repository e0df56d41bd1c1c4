pub mod Worlds
pub mod Desks
pub mod Cores
pub mod Admitted
