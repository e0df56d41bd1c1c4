pub mod Limits
pub mod Allocs
pub mod Cooling
pub mod Onu
pub mod Pool
pub mod Slots
pub mod SameSlots
pub mod Places
