pub mod Accounted
pub mod Places
