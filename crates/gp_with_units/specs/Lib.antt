pub mod Behind
pub mod Playing
pub mod Explaining
pub mod Driving
pub mod Verifying
pub mod Telling
