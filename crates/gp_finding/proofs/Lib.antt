pub mod Reading
pub mod Pieces
pub mod Telling
pub mod Cases
pub mod Naming
